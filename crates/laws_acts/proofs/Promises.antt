-- What changes of promises and kept outcomes let come and go among the places of a vat.
use Rattle.std.proofs.Common.{◌≡◌, ℕ, List, [], ◌∷◌, ◌++◌, Option, None, Some, refl, ap, arith}
use Rattle.std.specs.FinMap as map
use Rattle.rpc_machine.specs.declared.node.Node.{Node}
use Rattle.rpc_machine.specs.declared.node.Node.TheVariants as node
use Rattle.rpc_machine.specs.declared.calls.WaitingCall.{WaitingCall}
use Rattle.rpc_machine.specs.declared.calls.HeldCall.{HeldCall}
use Rattle.rpc_machine.specs.declared.calls.Promise.TheVariants as promise
use Rattle.rpc_machine.specs.declared.calls.Value.{Value}
use Rattle.rpc_machine.specs.declared.calls.Value.TheVariants as value
use Rattle.rpc_machine.specs.declared.calls.Caller.{Caller}
use Rattle.rpc_machine.specs.declared.calls.KeptOutcome.{KeptOutcome}
use Rattle.rpc_machine.specs.State.{State}
use Rattle.rpc_machine.specs.Lists.{how_many}
use Rattle.rpc_machine.specs.Places.{places, named_by_calls, named_by_held, named_by_value, named_by_outcome}
use Rattle.rpc_machine.specs.Progress.{Progress, caps_of}
use Rattle.rpc_machine.specs.Commands.{with_outcome}
use Rattle.rpc_machine.specs.Settling.{known}
use Rattle.rpc_machine.specs.Collecting.{without_promise, without_outcome}
use Rattle.laws_acts.specs.Alike.{Alike}
use Rattle.laws_acts.proofs.Parts.{how_many_append}
use Rattle.laws_acts.proofs.Tables.{tables}
use Rattle.laws_acts.proofs.Likeness.{changes_by, one_more_call, one_more_held}

-- ---- Promises

pub promise_opens : (s : State) (p : ℕ) → map.get s.promises p ≡ None → Alike (node.Promise p ∷ places s) (places (record s { promises = map.insert s.promises p (promise.Open []) }))
promise_opens s p free = tables.promises.comes s p (promise.Open []) free

-- A call more waits for it.
pub promise_holds : (s : State) (p : ℕ) (calls : List WaitingCall) (c : WaitingCall) → map.get s.promises p ≡ Some (promise.Open calls)
    → Alike (c.request.caps ++ places s) (places (record s { promises = map.insert s.promises p (promise.Open (calls ++ c ∷ [])) }))
promise_holds s p calls c there =
    changes_by tables.promises s p (promise.Open calls) (promise.Open (calls ++ c ∷ [])) c.request.caps [] there (λ test.
    let a = one_more_call calls c test in
    let b = how_many_append test c.request.caps (node.Promise p ∷ named_by_calls calls) in
    let d = how_many_append test (node.Promise p ∷ []) (named_by_calls calls) in
    let e = how_many_append test (node.Promise p ∷ []) (named_by_calls (calls ++ c ∷ [])) in
    let f = how_many_append test c.request.caps (named_by_calls calls) in
    omega (arith, a, b, d, e, f))

-- It leads to a node: it names that, and neither itself any more nor what waited for it.
pub promise_fixed : (s : State) (p : ℕ) (to : Node) (calls : List WaitingCall) → map.get s.promises p ≡ Some (promise.Open calls)
    → Alike (to ∷ places s) (node.Promise p ∷ named_by_calls calls ++ places (record s { promises = map.insert s.promises p (promise.Fixed to) }))
promise_fixed s p to calls there = tables.promises.changes s p (promise.Open calls) (promise.Fixed to) there

pub promise_goes : (d : Progress) (p : ℕ) (to : Node) → map.get d.state.promises p ≡ Some (promise.Fixed to) → Alike (places d.state) (to ∷ places (without_promise d p).state)
promise_goes d p to there = tables.promises.goes d.state p (promise.Fixed to) there

-- ---- Outcomes

pub value_names : (v : Value) → caps_of v ≡ named_by_value (Some v)
value_names (value.Results payload caps) = refl
value_names (value.Exception exception) = refl

pub outcome_comes : (s : State) (o : ℕ) (who : Caller) → map.get s.outcomes o ≡ None → Alike (places s) (places (with_outcome s o who))
outcome_comes s o who free = tables.outcomes.comes s o (record { caller = who; value = None; waiting = [] }) free

-- It is known: it names the capabilities of its value.
pub outcome_known : (s : State) (o : ℕ) (x : KeptOutcome) (v : Value) → map.get s.outcomes o ≡ Some x → x.value ≡ None → Alike (caps_of v ++ places s) (places (known s o x.caller x.waiting v))
outcome_known s o x v there none =
    changes_by tables.outcomes s o x (record { caller = x.caller; value = Some v; waiting = x.waiting }) (caps_of v) [] there (λ test.
    let a = how_many_append test (caps_of v) (named_by_outcome o x) in
    let b = how_many_append test (named_by_value x.value) (named_by_held x.waiting) in
    let c = how_many_append test (named_by_value (Some v)) (named_by_held x.waiting) in
    let d : how_many test (named_by_value x.value) ≡ 0 = ap (λ (w : Option Value). how_many test (named_by_value w)) none in
    let e : how_many test (caps_of v) ≡ how_many test (named_by_value (Some v)) = ap (λ (ns : List Node). how_many test ns) (value_names v) in
    omega (arith, a, b, c, d, e))

-- The calls that waited for it are taken out.
pub outcome_told : (s : State) (o : ℕ) (x : KeptOutcome) (v : Value) → map.get s.outcomes o ≡ Some x → x.value ≡ Some v → Alike (places s) (named_by_held x.waiting ++ places (known s o x.caller [] v))
outcome_told s o x v there is =
    changes_by tables.outcomes s o x (record { caller = x.caller; value = Some v; waiting = [] }) [] (named_by_held x.waiting) there (λ test.
    let a = how_many_append test (named_by_value x.value) (named_by_held x.waiting) in
    let b = how_many_append test (named_by_value (Some v)) [] in
    let c = how_many_append test (named_by_held x.waiting) (named_by_value (Some v) ++ []) in
    let d : how_many test (named_by_value x.value) ≡ how_many test (named_by_value (Some v)) = ap (λ (w : Option Value). how_many test (named_by_value w)) is in
    omega (arith, a, b, c, d))

-- A call more waits for it.
pub outcome_holds : (s : State) (o : ℕ) (x : KeptOutcome) (h : HeldCall) → map.get s.outcomes o ≡ Some x
    → Alike (h.call.request.caps ++ places s) (places (record s { outcomes = map.insert s.outcomes o (record x { waiting = x.waiting ++ h ∷ [] }) }))
outcome_holds s o x h there =
    changes_by tables.outcomes s o x (record x { waiting = x.waiting ++ h ∷ [] }) h.call.request.caps [] there (λ test.
    let a = one_more_held x.waiting h test in
    let b = how_many_append test h.call.request.caps (named_by_outcome o x) in
    let c = how_many_append test (named_by_value x.value) (named_by_held x.waiting) in
    let d = how_many_append test (named_by_value x.value) (named_by_held (x.waiting ++ h ∷ [])) in
    let e = how_many_append test h.call.request.caps (named_by_held x.waiting) in
    omega (arith, a, b, c, d, e))

pub outcome_goes : (d : Progress) (o : ℕ) (x : KeptOutcome) → map.get d.state.outcomes o ≡ Some x → Alike (places d.state) (named_by_outcome o x ++ places (without_outcome d o).state)
outcome_goes d o x there = tables.outcomes.goes d.state o x there
