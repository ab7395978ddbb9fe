-- Of the questions that are over there are no more than questions whose Finish is still to be sent.
use Rattle.std.proofs.Common.{◌≡◌, ℕ, ◌+◌, ◌≤◌, List, [], ◌∷◌, length, Option, None, Some, refl, ap, arith}
use Rattle.std.specs.Prelude.{is_some}
use Rattle.std.specs.Ordering.{nat_cmp}
use Rattle.std.specs.FinMap as map
use Rattle.finite_maps.specs.Tally.{Map, tally, tally_of}
use Rattle.finite_maps.proofs.Lens.{len_new, len_still}
use Rattle.finite_maps.proofs.Tallies.{tally-insert, tally-split}
use Rattle.rpc_machine.specs.declared.entries.Question.{Question}
use Rattle.rpc_machine.specs.declared.entries.Returned.{Returned}
use Rattle.rpc_machine.specs.declared.entries.Finishing.{Finishing}
use Rattle.rpc_machine.specs.declared.entries.Finishing.TheVariants as finishing
use Rattle.rpc_machine.specs.Progress.{Progress}
use Rattle.rpc_machine.specs.Collecting.{Goes, PromiseGoes, OutcomeGoes, ImportGoes}
use Rattle.rpc_machine.specs.Sweeping.{IsNotSent, closed_map, Withers, Over, Thing, Asked}

abbrev unsent_as : Finishing → ℕ
unsent_as finishing.Owed = 1
unsent_as finishing.Sent = 0
unsent_as finishing.Waived = 1

abbrev unsent : Question → ℕ
unsent x = unsent_as x.finish

counts_one : (f : Finishing) → IsNotSent f → unsent_as f ≡ 1
counts_one finishing.Owed h = refl
counts_one finishing.Sent h = absurd h
counts_one finishing.Waived h = refl

at_most_one : (f : Finishing) → unsent_as f ≤ 1
at_most_one finishing.Owed = omega (arith)
at_most_one finishing.Sent = omega (arith)
at_most_one finishing.Waived = omega (arith)

unsent_within : (es : List (ℕ × Question)) → tally_of unsent es ≤ length es
unsent_within [] = omega (arith)
unsent_within (e ∷ es) = let a = at_most_one e.1.finish in let b = unsent_within es in omega (arith, a, b)

one_more : (m : Map Question) (q : ℕ) (x : Question) (o : Option Question) → map.get m q ≡ o → map.len (map.insert m q x) ≤ map.len m + 1
one_more m q x None at = let n = len_new m q x at in omega (arith, n)
one_more m q x (Some y) at = let n = len_still m q x (ap (λ (o : Option Question). is_some o) at) in omega (arith, n)

one_closed : (m : Map Question) (q : ℕ) (x : Question) (r : Option Returned) → map.get m q ≡ Some x → IsNotSent x.finish → tally unsent (closed_map m q x r) + 1 ≡ tally unsent m
one_closed m q x None at h = let a = tally-insert unsent m q (record x { finish = finishing.Sent }) in let b = tally-split unsent m q x at in let c = counts_one x.finish h in omega (arith, a, b, c)
one_closed m q x (Some said) at h = let b = tally-split unsent m q x at in let c = counts_one x.finish h in omega (arith, b, c)

questions_stay : (d new : Progress) → Goes d new → new.state.questions ≡ d.state.questions
questions_stay d new (PromiseGoes p loose is) = ap (λ (x : Progress). x.state.questions) is
questions_stay d new (OutcomeGoes o loose is) = ap (λ (x : Progress). x.state.questions) is
questions_stay d new (ImportGoes i loose is) = ap (λ (x : Progress). x.state.questions) is

over_unsent : {d : Progress} {over : Map Question} → Withers d over → map.len over ≤ tally unsent d.state.questions
over_unsent (Over tight none) = let n = map.len-empty nat_cmp Question in omega (arith, n)
over_unsent (Thing {d} {mid} {over} goes rest) = let a = over_unsent rest in let b = ap (tally unsent) (questions_stay d mid goes) in omega (arith, a, b)
over_unsent (Asked {d} {over} q x at is rest) =
    let a = over_unsent rest in
    let b = one_closed d.state.questions q x x.returned at is.0 in
    let c = one_more over q x (map.get over q) refl in omega (arith, a, b, c)

pub over_within : (d : Progress) (over : Map Question) → Withers d over → map.len over ≤ map.len d.state.questions
over_within d over w = let a = over_unsent w in let b = unsent_within (map.entries d.state.questions) in let c = map.len-entries d.state.questions in omega (arith, a, b, c)
