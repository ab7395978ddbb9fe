-- Steps in which nothing goes.
use Rattle.std.proofs.Common.{◌≡◌, ◌⊎◌, inl, inr, ℕ, ◌<◌, List, [], ◌∷◌, ◌++◌, length, Option, None, Some, Ok, refl, sym, ap, subst, ◌∙◌, arith}
use Rattle.std.specs.Ordering.{nat_cmp}
use Rattle.std.specs.FinMap as map
use Rattle.rpc_machine.specs.declared.node.Node.{Node}
use Rattle.rpc_machine.specs.declared.node.Node.TheVariants as node
use Rattle.rpc_machine.specs.declared.calls.Caller.{Caller}
use Rattle.rpc_machine.specs.declared.calls.Caller.TheVariants as caller
use Rattle.rpc_machine.specs.declared.command.Command.{Command}
use Rattle.rpc_machine.specs.declared.command.Granted.{Granted}
use Rattle.rpc_machine.specs.declared.entries.Question.{Question}
use Rattle.rpc_machine.specs.State.{State}
use Rattle.rpc_machine.specs.Limits.{IsWithin}
use Rattle.rpc_machine.specs.Places.{places}
use Rattle.rpc_machine.specs.Progress.{Progress, begin, quiet, with_refs}
use Rattle.rpc_machine.specs.Settling.{NoneLeft}
use Rattle.rpc_machine.specs.Collecting.{IsTight, IsLoosePromise, IsLooseOutcome, IsLooseImport, CallerIsDone, Tight}
use Rattle.rpc_machine.specs.Sweeping.{IsToFinish, Over, FinishesEach, release_each, releases}
use Rattle.rpc_machine.specs.Refusals.{refused}
use Rattle.rpc_machine.specs.Commands.{Acts}
use Rattle.rpc_machine.specs.Steps.{Ends, Obeys}
use Rattle.laws_acts.specs.Alike.{Alike}
use Rattle.laws_acts.proofs.Loose.{loose_by_names}
use Rattle.laws_acts.proofs.References.{refs_come}
use Rattle.core_store.specs.Holding.{IsFresh}
use Rattle.core_step_sweeps.specs.Thinking.{IsLoose, IsQuiet}
use Rattle.core_steps.proofs.Answered.{does, done}
use Rattle.core_steps.proofs.Made.{MadeRef}

-- ---- What stays quiet

-- An entry that may go but for its names was there before, and whoever is done was done before.
pub record IsCalmBeside (s t : State) : Type 0 where
  pub promises : (p : ℕ) → IsLoosePromise t p (map.get t.promises p) → IsLoosePromise t p (map.get s.promises p)
  pub outcomes : (o : ℕ) → IsLooseOutcome t o (map.get t.outcomes o) → IsLooseOutcome t o (map.get s.outcomes o)
  pub imports : (e : ℕ) → IsLooseImport t e (map.get t.imports e) → IsLooseImport t e (map.get s.imports e)
  pub questions : (q : ℕ) → IsToFinish t q (map.get t.questions q) → IsToFinish t q (map.get s.questions q)
  pub callers : (o : ℕ) (who : Caller) → CallerIsDone t o who → CallerIsDone s o who
  pub calls : (c : ℕ) → map.get t.calls c ≡ None → map.get s.calls c ≡ None

-- No name went: so nothing is loose that was not.
module _ (s t : State) (come : List Node) (alike : Alike (come ++ places s) (places t)) (beside : IsCalmBeside s t) where
  first : {A : Type 0} → A ⊎ (0 < 0) → A
  first (inl a) = a
  first (inr less) = absurd (omega (arith, less))

  over : (q : ℕ) (x : Option Question) → IsToFinish t q x → IsToFinish s q x
  over q None h = absurd h
  over q (Some x) h = (h.0, first (loose_by_names.questions s t come [] alike q x x.role beside.calls h.1))

  was_loose : (n : Node) → IsLoose t n → IsLoose s n
  was_loose (node.Object o) h = absurd h
  was_loose (node.Promise p) h = first (loose_by_names.promises s t come [] alike p (map.get s.promises p) (beside.promises p h))
  was_loose (node.Field o path) h = first (loose_by_names.outcomes s t come [] alike o (map.get s.outcomes o) (beside.callers o) (beside.outcomes o h))
  was_loose (node.Import e) h = first (loose_by_names.imports s t come [] alike e.0 (map.get s.imports e.0) (beside.imports e.0 h))
  was_loose (node.Pipe q path) h = over q.0 (map.get s.questions q.0) (beside.questions q.0 h)
  was_loose (node.Broken reason) h = absurd h

  pub quiet_behind : IsQuiet s → IsQuiet t
  quiet_behind calm n h = calm n (was_loose n h)

-- One reference more.
pub calm_with_ref : (s : State) (n : Node) → IsFresh s.refs s.next_ref → IsQuiet s → IsQuiet (with_refs s (n ∷ []))
calm_with_ref s n fresh calm =
    quiet_behind s (with_refs s (n ∷ [])) (n ∷ []) (refs_come s (n ∷ []) fresh)
    (record { promises = λ p h. h; outcomes = λ o h. h; imports = λ e h. h; questions = λ q h. h; callers = λ o who h. done_as_before s n who o h; calls = λ c h. h })
    calm
  where
    done_as_before : (s : State) (n : Node) (who : Caller) (o : ℕ) → CallerIsDone (with_refs s (n ∷ [])) o who → CallerIsDone s o who
    done_as_before s n (caller.Application c) o h = h
    done_as_before s n (caller.Peer q) o h = h

-- ---- What ends

pub tight_of : (s : State) → IsQuiet s → IsTight s
tight_of s calm = record {
  promises = λ p loose. calm (node.Promise p) loose;
  outcomes = λ o loose. calm (node.Field o []) loose;
  imports = λ e loose. calm (node.Import (record { 0 = e })) loose;
}

pub none_over : (s : State) → IsQuiet s → (q : ℕ) → ¬ (IsToFinish s q (map.get s.questions q))
none_over s calm q h = calm (node.Pipe (record { 0 = q }) []) h

none_in : {X : Type 0} (xs : List X) → length xs ≡ 0 → xs ≡ []
none_in [] none = refl
none_in (x ∷ xs) none = absurd (omega (arith, none))

no_entries : {X : Type 0} → map.entries (map.empty {X = X} {R = nat_cmp}) ≡ []
no_entries {X} = none_in _ (sym (map.len-entries _) ∙ map.len-empty nat_cmp X)

none_finished : (s : State) → FinishesEach (begin s) (map.entries (map.empty {X = Question} {R = nat_cmp})) (begin s)
none_finished s = subst (λ (xs : List (ℕ × Question)). FinishesEach (begin s) xs (begin s)) (sym no_entries) refl

nothing_released : (s : State) → begin s ≡ releases (begin s)
nothing_released s = sym (ap (λ (xs : List (ℕ × ℕ)). record (release_each (begin s) xs) { released = map.empty }) no_entries)

-- A step that said nothing and in which nothing is loose ends as it is.
pub ends_quietly : (s : State) → IsQuiet s → Ends (begin s) quiet s
ends_quietly s calm = record {
  drained = begin s;
  swept = begin s;
  drains = NoneLeft refl;
  sweeps = (map.empty, Over (tight_of s calm) (none_over s calm), (begin s, none_finished s, (begin s, Tight (tight_of s calm), nothing_released s)));
  effects_are = refl;
  new_is = refl;
}

-- So a command whose first act says nothing is done with that.
pub done_quietly : (s t : State) (c : Command) (g : Granted) (d new : Progress) → refused s c ≡ None → d ≡ begin s → Acts d c g new → new ≡ begin t → IsQuiet t → IsWithin t → Obeys s c (Ok g) quiet t
done_quietly s t c g d new free began acts says calm within = done s c g quiet t free (does s c g d new quiet t began acts (subst (λ (x : Progress). Ends x quiet t) (sym says) (ends_quietly t calm))) within

-- One reference was made.
pub named_quietly : (s t : State) (c : Command) (g : Granted) (d new : Progress) → refused s c ≡ None → d ≡ begin s → Acts d c g new → MadeRef s g new → new.state ≡ t → IsFresh s.refs s.next_ref → IsQuiet s → IsWithin t → Obeys s c (Ok g) quiet t
named_quietly s t c g d new free began acts made is fresh calm within =
    let says : new ≡ begin t = made.2 ∙ ap begin (sym (ap (λ (x : Progress). x.state) made.2) ∙ is) in
    let state : with_refs s (made.0 ∷ []) ≡ t = sym (ap (λ (x : Progress). x.state) made.2) ∙ is in
    done_quietly s t c g d new free began acts says (subst IsQuiet state (calm_with_ref s made.0 fresh calm)) within
