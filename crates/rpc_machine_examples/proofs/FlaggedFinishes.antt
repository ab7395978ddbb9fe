-- The flag of a Finish gives back what no other place names; and what it gives back is not released again.
use Rattle.std.proofs.Common.{◌≡◌, ℕ, suc, Bool, true, false, cond, nat_eq, List, [], ◌∷◌, Option, None, Some, refl, sym, ap, subst, ◌∙◌, arith}
use Rattle.std.specs.Ordering.{nat_cmp}
use Rattle.std.specs.FinMap as map
use Rattle.finite_maps.specs.Tally.{Map}
use Rattle.rpc_msg.specs.declared.message.Message.{Message}
use Rattle.rpc_msg.specs.declared.message.PlainMessage.TheVariants as plain
use Rattle.rpc_machine.specs.declared.command.Effects.{Effects}
use Rattle.rpc_machine.specs.declared.calls.OwnCall.{OwnCall}
use Rattle.rpc_machine.specs.declared.calls.OwnCall.TheVariants as own
use Rattle.rpc_machine.specs.declared.entries.Question.{Question}
use Rattle.rpc_machine.specs.declared.entries.Import.{Import}
use Rattle.rpc_machine.specs.declared.entries.Reference.{Reference}
use Rattle.rpc_machine.specs.State.{State}
use Rattle.rpc_machine.specs.Nodes.{is_import, is_pipe}
use Rattle.rpc_machine.specs.Places.{names}
use Rattle.rpc_machine.specs.Progress.{Progress, begin, with_state, send}
use Rattle.rpc_machine.specs.Collecting.{IsTight, Goes, PromiseGoes, OutcomeGoes, ImportGoes, Collects}
use Rattle.rpc_machine.specs.Flags.{flag_for, give_one, give_if}
use Rattle.rpc_machine.specs.Sweeping.{IsToFinish, closed, Withers, Over, Thing, Asked, FinishesEach, release_each, releases, Sweeps}
use Rattle.rpc_machine.specs.Commands.{FinishesCall}
use Rattle.rpc_machine_examples.specs.ExactFlags.{received_often, to_the_import, returned_question, got_once, finish_with, FinishesWith}
use Rattle.rpc_machine_examples.proofs.GivenMaps.{m, found, entries_empty, entries_of, progress, tight_of, names_of, gone}
use Rattle.rpc_machine_examples.proofs.EndOfStep.{none_arose}
use Rattle.rpc_machine_examples.proofs.OnlyEnd.{nothing_goes, stays_tight}
use Rattle.finite_maps.proofs.Tested.{equal, get_put}

abbrev saying : List Message → Effects
saying ms = record { sends = ms; deliveries = []; answers = []; down = None }

abbrev questions : List (ℕ × Question)
questions = (0, returned_question) ∷ []

abbrev own_calls : List (ℕ × OwnCall)
own_calls = (0, own.Direct (record { 0 = 0 })) ∷ []

-- ---- Which questions are over

both_ways : (x : Question) → ◌≡◌ {A = Option Question} None (Some x) → ⊥
both_ways x h = cc

the_same : (x y : Question) → Some x ≡ Some y → x ≡ y
the_same x y h = cc

only_one : (q : ℕ) (x : Question) → map.get (m questions) q ≡ Some x → (q ≡ 0) × (x ≡ returned_question)
only_one q x h = by (nat_eq q 0) refl (sym (get_put (m []) 0 returned_question q) ∙ h)
  where
    by : (b : Bool) → nat_eq q 0 ≡ b → cond b (Some returned_question) (map.get (m []) q) ≡ Some x → (q ≡ 0) × (x ≡ returned_question)
    by true t g = (equal q 0 t, sym (the_same returned_question x g))
    by false t g = absurd (both_ways x (sym (found [] q) ∙ g))

abbrev NoQuestion : State → Type 0
NoQuestion s = (q : ℕ) → map.get s.questions q ≡ None

still_none : (d new : Progress) → Goes d new → NoQuestion d.state → NoQuestion new.state
still_none d new (PromiseGoes p h f) none = rw f none
still_none d new (OutcomeGoes o h f) none = rw f none
still_none d new (ImportGoes i h f) none = rw f none

none_left : (d : Progress) (over : Map Question) → NoQuestion d.state → Withers d over → over ≡ map.empty
none_left d over none (Over h k) = refl
none_left d over none (Thing {mid = mid} g rest) = none_left mid over (still_none d mid g none) rest
none_left d over none (Asked q x f h rest) = absurd (both_ways x (sym (none q) ∙ f))

-- The one question is over.
is_over : (d : Progress) (over : Map Question) → IsTight d.state → d.state.questions ≡ m questions → IsToFinish d.state 0 (Some returned_question) → Withers d over → map.entries over ≡ questions
is_over d over tight asked h (Over t none) = absurd (none 0 (subst (IsToFinish d.state 0) (sym (ap (λ (j : Map Question). map.get j 0) asked ∙ found questions 0)) h))
is_over d over tight asked h (Thing {mid = mid} g rest) = absurd (nothing_goes d mid tight g)
is_over d over tight asked h (Asked {over = others} q x f k rest) =
    let one = only_one q x (ap (λ (j : Map Question). map.get j q) (sym asked) ∙ f) in
    let at_zero : Withers (with_state d (closed d.state 0 x)) others = subst (λ j. Withers (with_state d (closed d.state j x)) others) one.0 rest in
    let closes : Withers (with_state d (closed d.state 0 returned_question)) others = subst (λ (y : Question). Withers (with_state d (closed d.state 0 y)) others) one.1 at_zero in
    let gone_now : NoQuestion (closed d.state 0 returned_question) = λ j. ap (λ (z : Map Question). map.get (map.remove z 0) j) asked ∙ ap (λ (z : Map Question). map.get z j) (gone 0 returned_question) ∙ found [] j in
    let empty : others ≡ map.empty = none_left (with_state d (closed d.state 0 returned_question)) others gone_now closes in
    ap (λ (z : Map Question). map.entries (map.insert z q x)) empty
    ∙ ap (λ j. map.entries (map.insert (map.empty {X = Question} {R = nat_cmp}) j x)) one.0
    ∙ ap (λ (y : Question). map.entries (map.insert (map.empty {X = Question} {R = nat_cmp}) 0 y)) one.1
    ∙ entries_of questions

-- ---- The step

abbrev begun : List (ℕ × Reference) → ℕ → State
begun rs n = record (got_once rs n) { calls = map.remove (m own_calls) 0 }

abbrev finishing_with : Progress → Bool → Progress
finishing_with d b = send (with_state d (closed (give_if d.state b (0 ∷ [])) 0 returned_question)) (plain.Finish (record { question = record { 0 = 0 }; release_result_caps = b }))

abbrev last : List (ℕ × Reference) → ℕ → Bool → State
last rs n b = closed (give_if (begun rs n) b (0 ∷ [])) 0 returned_question

module _ (rs : List (ℕ × Reference)) (n : ℕ) (b : Bool) where
  abbrev acted_one : Progress
  acted_one = progress (begun rs n) (saying [])

  abbrev last_one : Progress
  last_one = progress (last rs n b) (saying (finish_with b ∷ []))

  sweeps_so : (new : Progress) → flag_for (begun rs n) (0 ∷ []) ≡ b → IsTight (begun rs n) → IsTight (last rs n b) → IsToFinish (begun rs n) 0 (Some returned_question) → Sweeps acted_one new → new ≡ last_one
  sweeps_so new flag tight tight_last over h =
      let g = h.2 in
      let k = g.2 in
      let is : map.entries h.0 ≡ questions = is_over acted_one h.0 tight refl over h.1 in
      let f : FinishesEach acted_one questions g.0 = subst (λ (xs : List (ℕ × Question)). FinishesEach acted_one xs g.0) is g.1 in
      let quiet : f.0 ≡ acted_one = stays_tight f.0 acted_one tight f.1 in
      let sent : g.0 ≡ last_one =
      f.2
      ∙ ap (λ (z : Progress). finishing_with z (flag_for z.state (0 ∷ []))) quiet
      ∙ ap (λ (z : Bool). finishing_with acted_one z) flag in
      let then_tight : k.0 ≡ last_one = stays_tight k.0 last_one tight_last (subst (λ (z : Progress). Collects k.0 z) sent k.1) in
      let nothing : releases last_one ≡ last_one = ap (λ (xs : List (ℕ × ℕ)). record (release_each last_one xs) { released = map.empty }) entries_empty in
      k.2 ∙ ap releases then_tight ∙ nothing

  step_so : (left : Option Import) → flag_for (begun rs n) (0 ∷ []) ≡ b → IsTight (begun rs n) → IsTight (last rs n b) → IsToFinish (begun rs n) 0 (Some returned_question) → map.get (last rs n b).imports 0 ≡ left → FinishesWith rs n b left
  step_so left flag tight tight_last over is_left g x new h =
      let a : FinishesCall (begin (got_once rs n)) 0 (Some (own.Direct (record { 0 = 0 }))) g h.acted = subst (λ (o : Option OwnCall). FinishesCall (begin (got_once rs n)) 0 o g h.acted) (found own_calls 0) h.acts in
      let f : h.acted ≡ acted_one = a.1 in
      let ends = h.ends in
      let drained : ends.drained ≡ acted_one = none_arose ends.drained h.acted ends.drains (ap (λ (p : Progress). p.arisen) f) ∙ f in
      let swept : ends.swept ≡ last_one = sweeps_so ends.swept flag tight tight_last over (subst (λ (p : Progress). Sweeps p ends.swept) drained ends.sweeps) in (
        ap (λ (y : Effects). y.sends) ends.effects_are ∙ ap (λ (p : Progress). p.effects.sends) swept,
        ap (λ (t : State). map.get t.imports 0) (ends.new_is ∙ ap (λ (p : Progress). p.state) swept) ∙ is_left,
      )

pub not_loose : (s : State) (k : ℕ) → names s (is_import 0) ≡ suc k → ¬ (names s (is_import 0) ≡ 0)
not_loose s k named h = let e : suc k ≡ 0 = sym named ∙ h in absurd (omega arith)

abbrev imports_once : List (ℕ × Import)
imports_once = (0, received_often 1) ∷ []

no_call : (rs : List (ℕ × Reference)) → map.get (begun rs 1).calls 0 ≡ None
no_call rs = ap (λ (x : Map OwnCall). map.get x 0) (gone 0 (own.Direct (record { 0 = 0 }))) ∙ found [] 0

-- ---- Nothing else names it

alone_names : names (begun [] 1) (is_import 0) ≡ 1
alone_names = names_of (begun [] 1) [] [] [] [] questions imports_once [] [] refl refl refl refl refl refl refl refl (is_import 0)

alone_pipes : names (begun [] 1) (is_pipe 0) ≡ 0
alone_pipes = names_of (begun [] 1) [] [] [] [] questions imports_once [] [] refl refl refl refl refl refl refl refl (is_pipe 0)

alone_flag : flag_for (begun [] 1) (0 ∷ []) ≡ true
alone_flag = rw (found imports_once 0, alone_names) refl

alone_left : (last [] 1 true).imports ≡ m []
alone_left = ap (give_one (m imports_once) 0) (found imports_once 0) ∙ gone 0 (received_often 1)

pub alone : FinishesWith [] 1 true None
alone =
    step_so [] 1 true None alone_flag
    (tight_of (begun [] 1) [] [] imports_once refl refl refl tt tt (not_loose (begun [] 1) 0 alone_names, tt))
    (tight_of (last [] 1 true) [] [] [] refl refl alone_left tt tt tt)
    (tt, (no_call [], alone_pipes))
    (ap (λ (j : Map Import). map.get j 0) alone_left ∙ found [] 0)

-- ---- A reference names it

abbrev refs_named : List (ℕ × Reference)
refs_named = (0, to_the_import) ∷ []

named_names : names (begun refs_named 1) (is_import 0) ≡ 2
named_names = names_of (begun refs_named 1) refs_named [] [] [] questions imports_once [] [] refl refl refl refl refl refl refl refl (is_import 0)

named_pipes : names (begun refs_named 1) (is_pipe 0) ≡ 0
named_pipes = names_of (begun refs_named 1) refs_named [] [] [] questions imports_once [] [] refl refl refl refl refl refl refl refl (is_pipe 0)

named_flag : flag_for (begun refs_named 1) (0 ∷ []) ≡ false
named_flag = rw (found imports_once 0, named_names) refl

named_last : names (last refs_named 1 false) (is_import 0) ≡ 1
named_last = names_of (last refs_named 1 false) refs_named [] [] [] [] imports_once [] [] refl refl refl refl (gone 0 returned_question) refl refl refl (is_import 0)

pub named : FinishesWith refs_named 1 false (Some (received_often 1))
named =
    step_so refs_named 1 false (Some (received_often 1)) named_flag
    (tight_of (begun refs_named 1) [] [] imports_once refl refl refl tt tt (not_loose (begun refs_named 1) 1 named_names, tt))
    (tight_of (last refs_named 1 false) [] [] imports_once refl refl refl tt tt (not_loose (last refs_named 1 false) 0 named_last, tt))
    (tt, (no_call refs_named, named_pipes))
    (found imports_once 0)
