-- One question after the other is finished.
use Rattle.std.proofs.Common.{◌≡◌, ◌≢◌, ℕ, ◌+◌, ◌<◌, ◌≤◌, Bool, List, [], ◌∷◌, ◌++◌, length, append-nil, Option, None, Some, refl, sym, ap, subst, ◌∙◌, arith}
use Rattle.std.specs.Ordering.{nat_cmp}
use Rattle.std.specs.FinMap as map
use Rattle.finite_maps.specs.Tally.{Map}
use Rattle.rpc_msg.specs.declared.ids.QuestionId.{QuestionId}
use Rattle.rpc_msg.specs.declared.message.PlainMessage.TheVariants as plain
use Rattle.rpc_msg.specs.declared.message.Message.{Message}
use Rattle.rpc_machine.specs.declared.entries.Question.{Question}
use Rattle.rpc_machine.specs.declared.command.Effects.{Effects}
use Rattle.rpc_machine.specs.State.{State}
use Rattle.rpc_machine.specs.Progress.{Progress, send, export_id}
use Rattle.rpc_machine.specs.Collecting.{Collects, Tight, Loose, Goes, PromiseGoes, OutcomeGoes, ImportGoes}
use Rattle.rpc_machine.specs.Sweeping.{FinishesEach, Sweeps, release_each}
use Rattle.core_outbox.specs.Outgoing.{with_finishes, finish_messages}
use Rattle.core_outbox.specs.Rising.{AllBelow}
use Rattle.core_store.specs.Holding.{state_of, IsThere}
use Rattle.core_step.specs.declared.step.Step.{Step}
use Rattle.core_step.specs.InProgress.{progress_of, IsReady}
use Rattle.core_step_collects.specs.Dropping.{OnlyReleases}
use Rattle.core_step_sweeps.specs.Over.{IsAboveAll, AreRising, beside, standing, AreOver}
use Rattle.core_step_sweeps.specs.Ending.{finishing_of, swept_of, finished_if, FinishesOne, AreFrom, AreLeft}
use Rattle.core_step_sweeps.proofs.Closed.{below_later}
use Rattle.core_step_sweeps.proofs.Withered.{over_within}

-- ---- What goes, whatever was said

goes_with : (e : Effects) (d new : Progress) → Goes d new → Goes (record d { effects = e }) (record new { effects = e })
goes_with e d new (PromiseGoes p loose is) = PromiseGoes p loose (ap (λ (x : Progress). record x { effects = e }) is)
goes_with e d new (OutcomeGoes o loose is) = OutcomeGoes o loose (ap (λ (x : Progress). record x { effects = e }) is)
goes_with e d new (ImportGoes i loose is) = ImportGoes i loose (ap (λ (x : Progress). record x { effects = e }) is)

collects_with : (e : Effects) {new d : Progress} → Collects new d → Collects (record new { effects = e }) (record d { effects = e })
collects_with e (Tight h) = Tight h
collects_with e (Loose {d} {mid} g rest) = Loose (goes_with e d mid g) (collects_with e rest)

pub collects_finishing : (old new : Step) → OnlyReleases old new → Collects (progress_of new) (progress_of old) → Collects (finishing_of new) (finishing_of old)
collects_finishing old new only c =
    subst (λ (e : Effects). Collects (record (progress_of new) { effects = e }) (finishing_of old)) (sym (ap with_finishes only.outbox)) (collects_with (with_finishes old.outbox) c)

pub next_one : (x mid new : Step) (q : ℕ) (o : Option Question) {v : Question} → Some v ≡ o → OnlyReleases x mid → Collects (progress_of mid) (progress_of x)
    → finishing_of new ≡ finished_if (finishing_of mid) q (map.get mid.store.questions.entries q) → map.get x.store.questions.entries q ≡ o → FinishesOne x new q o
next_one x mid new q None {v} e only c said at = absurd (let h : ◌≡◌ {A = Option Question} (Some v) None = e in cc)
next_one x mid new q (Some y) e only c said at =
    (finishing_of mid, collects_finishing x mid only c, said ∙ ap (finished_if (finishing_of mid) q) (ap (λ (m : Map Question). map.get m q) only.questions ∙ at))

-- ---- The loop

pub turn : (s : State) (x y : Step) (q : QuestionId) (qs : List QuestionId) (new : Progress) (o : Option Question) → map.get s.questions q.0 ≡ o → FinishesOne x y q.0 o
    → FinishesEach (finishing_of y) (standing s qs) new → FinishesEach (finishing_of x) (standing s (q ∷ qs)) new
turn s x y q qs new None at one f =
    subst (λ (o : Option Question). FinishesEach (finishing_of x) (beside q.0 o (standing s qs)) new) (sym at)
    (subst (λ (z : Step). FinishesEach (finishing_of z) (standing s qs) new) one f)
turn s x y q qs new (Some v) at one f =
    subst (λ (o : Option Question). FinishesEach (finishing_of x) (beside q.0 o (standing s qs)) new) (sym at)
    (one.0, one.1, subst (λ (d : Progress). FinishesEach d (standing s qs) new) one.2 f)

module _ (s : State) (x : Step) (q : QuestionId) (qs : List QuestionId) (left : AreLeft s x (q ∷ qs)) where
  pub still : map.get x.store.questions.entries q.0 ≡ map.get s.questions q.0
  still = left.same q.0 left.rising.0

  pub comes_last : AllBelow q.0 (map.entries x.outbox.finishes)
  comes_last = below_later left.low q.0 (map.entries x.outbox.finishes) left.rising.0 left.below

  room_for : (o : Option Question) → length (beside q.0 o (standing s qs)) ≤ x.outbox.finish_room → IsThere o → 0 < x.outbox.finish_room
  room_for None fits there = absurd there
  room_for (Some v) fits there = omega (arith, fits)

  pub has_room : IsThere (map.get x.store.questions.entries q.0) → 0 < x.outbox.finish_room
  has_room there = room_for (map.get s.questions q.0) left.room (subst (λ (o : Option Question). IsThere o) still there)

  module _ (y : Step) (one : FinishesOne x y q.0 (map.get x.store.questions.entries q.0)) (room : x.outbox.finish_room ≤ y.outbox.finish_room + 1) where
    room_left : (o : Option Question) → FinishesOne x y q.0 o → length (beside q.0 o (standing s qs)) ≤ x.outbox.finish_room → length (standing s qs) ≤ y.outbox.finish_room
    room_left None e fits = let r = ap (λ (z : Step). z.outbox.finish_room) e in omega (arith, r, fits)
    room_left (Some v) e fits = omega (arith, room, fits)

    pub one_then : FinishesOne x y q.0 (map.get s.questions q.0)
    one_then = subst (λ (o : Option Question). FinishesOne x y q.0 o) still one

    pub left_more : ((k : ℕ) → k ≢ q.0 → map.get y.store.questions.entries k ≡ map.get x.store.questions.entries k)
        → ((k : ℕ) → q.0 < k → AllBelow k (map.entries y.outbox.finishes)) → AreLeft s y qs
    left_more others below = record {
      low = q.0 + 1;
      rising = left.rising.1;
      below = below (q.0 + 1) (omega (arith));
      same = λ k less. others k (λ e. absurd (omega (arith, less, e))) ∙ left.same k (let a = left.rising.0 in omega (arith, a, less));
      room = room_left (map.get s.questions q.0) one_then left.room;
    }

-- ---- From the start

above_from : (low : ℕ) (ids : List QuestionId) → IsAboveAll low ids → AreFrom (low + 1) ids
above_from low [] h = tt
above_from low (q ∷ qs) h = (let a = h.0 in omega (arith, a), above_from q.0 qs h.1)

rising_from : (ids : List QuestionId) → AreRising ids → AreFrom 0 ids
rising_from [] h = tt
rising_from (q ∷ qs) h = (omega (arith), above_from q.0 qs h)

none_in : (es : List (ℕ × Bool)) → length es ≡ 0 → es ≡ []
none_in [] h = refl
none_in (e ∷ es) h = absurd (omega (arith, h))

no_finishes : (m : Map Bool) → m ≡ map.empty → map.entries m ≡ []
no_finishes m e = none_in (map.entries m) (sym (map.len-entries m) ∙ ap map.len e ∙ map.len-empty nat_cmp Bool)

pub finishing_ready : (x : Step) → IsReady x → finishing_of x ≡ progress_of x
finishing_ready x r =
    ap (λ (es : List (ℕ × Bool)). record (progress_of x) { effects = record (x.outbox.said) { sends = x.outbox.said.sends ++ finish_messages es } }) (no_finishes x.outbox.finishes r.unfinished)
    ∙ ap (λ (ms : List Message). record (progress_of x) { effects = record (x.outbox.said) { sends = ms } }) (append-nil x.outbox.said.sends)

pub left_all : (x : Step) (ids : List QuestionId) → IsReady x → AreOver (state_of x.store) ids → AreLeft (state_of x.store) x ids
left_all x ids r o = record {
  low = 0;
  rising = rising_from ids o.rising;
  below = subst (λ (es : List (ℕ × Bool)). AllBelow 0 es) (sym (no_finishes x.outbox.finishes r.unfinished)) tt;
  same = λ q less. refl;
  room =
      let many = over_within (progress_of x) o.over (o.withers (progress_of x) refl) in
      let n = sym (ap length o.entries) ∙ sym (map.len-entries o.over) in
      let f = r.finishes in omega (arith, many, n, f);
}

-- ---- At the end

released_state : (d : Progress) (xs : List (ℕ × ℕ)) → (release_each d xs).state ≡ d.state
released_state d [] = refl
released_state d (x ∷ xs) = released_state (send d (plain.Release (record { export = export_id x.0; count = x.1 }))) xs

pub swept_state : (x : Step) → (swept_of x).state ≡ state_of x.store
swept_state x = released_state (finishing_of x) (map.entries x.outbox.releases)

pub sweeps : (old mid new : Step) (ids : List QuestionId) → IsReady old → AreOver (state_of old.store) ids → FinishesEach (finishing_of old) (standing (state_of old.store) ids) (finishing_of mid)
    → OnlyReleases mid new → Collects (progress_of new) (progress_of mid) → Sweeps (progress_of old) (swept_of new)
sweeps old mid new ids r o each only c = (
  o.over,
  o.withers (progress_of old) refl,
  (
    finishing_of mid,
    subst (λ (es : List (ℕ × Question)). FinishesEach (progress_of old) es (finishing_of mid)) (sym o.entries)
        (subst (λ (d : Progress). FinishesEach d (standing (state_of old.store) ids) (finishing_of mid)) (finishing_ready old r) each),
    (finishing_of new, collects_finishing mid new only c, refl),
  ),
)
