-- What waiting calls name stays named while they are taken out and routed.
use Rattle.std.proofs.Common.{◌≡◌, ℕ, List, [], ◌∷◌, ◌++◌, Some, ap, arith}
use Rattle.std.specs.FinMap as map
use Rattle.rpc_machine.specs.declared.node.Node.{Node}
use Rattle.rpc_machine.specs.declared.node.Node.TheVariants as node
use Rattle.rpc_machine.specs.declared.calls.WaitingCall.{WaitingCall}
use Rattle.rpc_machine.specs.declared.calls.HeldCall.{HeldCall}
use Rattle.rpc_machine.specs.declared.calls.Promise.TheVariants as promise
use Rattle.rpc_machine.specs.declared.entries.Embargo.{Embargo}
use Rattle.rpc_machine.specs.State.{State}
use Rattle.rpc_machine.specs.Lists.{how_many, update}
use Rattle.rpc_machine.specs.Messages.{unembargoed}
use Rattle.rpc_machine.specs.Places.{places, named_by_calls, named_by_held}
use Rattle.laws_acts.specs.Alike.{Alike, places_beside}
use Rattle.laws_acts.specs.Laws.{TakenCallsStayNamed}
use Rattle.laws_acts.proofs.Parts.{how_many_append}
use Rattle.laws_acts.proofs.Likeness.{alike_beside}
use Rattle.laws_acts.proofs.References.{embargo_lifts}
use Rattle.laws_acts.proofs.Promises.{promise_fixed, outcome_told}

-- The calls that go with another node are those that are taken out.
beside_named : (come : List Node) (n : Node) (calls : List WaitingCall) (taken : List HeldCall) (s t : State) → named_by_held taken ≡ named_by_calls calls
    → Alike (come ++ places s) ((n ∷ named_by_calls calls) ++ places t) → Alike (come ++ places s) (n ∷ places_beside taken t)
beside_named come n calls taken s t same h = λ test.
    let a = h test in
    let b = how_many_append test (n ∷ named_by_calls calls) (places t) in
    let c = how_many_append test (n ∷ []) (named_by_calls calls) in
    let d = how_many_append test (n ∷ []) (places_beside taken t) in
    let e = how_many_append test (named_by_held taken) (places t) in
    let f = ap (λ (ns : List Node). how_many test ns) same in
    omega (arith, a, b, c, d, e, f)

fixed : (s : State) (p : ℕ) (to : Node) (calls : List WaitingCall) (taken : List HeldCall) → map.get s.promises p ≡ Some (promise.Open calls) → named_by_held taken ≡ named_by_calls calls
    → Alike (to ∷ places_beside [] s) (node.Promise p ∷ places_beside taken (record s { promises = map.insert s.promises p (promise.Fixed to) }))
fixed s p to calls taken there same = beside_named (to ∷ []) (node.Promise p) calls taken s (record s { promises = map.insert s.promises p (promise.Fixed to) }) same (promise_fixed s p to calls there)

lifted : (s : State) (e : ℕ) (b : Embargo) (taken : List HeldCall) → map.get s.embargoes e ≡ Some b → named_by_held taken ≡ named_by_calls b.waiting
    → Alike (places_beside [] s) (b.node ∷ places_beside taken (record s { refs = update s.refs b.reference.0 unembargoed; embargoes = map.remove s.embargoes e }))
lifted s e b taken there same =
    beside_named [] b.node b.waiting taken s (record s { refs = update s.refs b.reference.0 unembargoed; embargoes = map.remove s.embargoes e }) same (embargo_lifts s e b there)

next : (s : State) (h : HeldCall) (rest : List HeldCall) → Alike (places_beside (h ∷ rest) s) (h.call.request.caps ++ places_beside rest s)
next s h rest = λ test.
    let a = how_many_append test (h.call.request.caps ++ named_by_held rest) (places s) in
    let b = how_many_append test h.call.request.caps (named_by_held rest) in
    let c = how_many_append test (named_by_held rest) (places s) in
    let d = how_many_append test h.call.request.caps (places_beside rest s) in
    omega (arith, a, b, c, d)

pub taken_stay : TakenCallsStayNamed
taken_stay = record { fixed = fixed; told = outcome_told; lifted = lifted; next = next; meanwhile = alike_beside }
