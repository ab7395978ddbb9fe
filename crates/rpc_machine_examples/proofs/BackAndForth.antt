-- The run of a reference that goes back and forth between the vats, event by event.
use Rattle.std.proofs.Common.{◌≡◌, true, false, [], ◌∷◌, Some, inr, refl, ap}
use Rattle.std.specs.FinMap as map
use Rattle.rpc_msg.specs.declared.ids.Vat.TheVariants.{A, B}
use Rattle.rpc_journal.specs.declared.report.Advanced.TheVariants as advanced
use Rattle.rpc_machine.specs.declared.command.Command.TheVariants as command
use Rattle.rpc_machine.specs.declared.command.Granted.TheVariants as granted
use Rattle.rpc_msg.specs.declared.parts.Descriptor.TheVariants as descriptor
use Rattle.rpc_machine.specs.declared.calls.Promise.TheVariants as promise
use Rattle.rpc_machine.specs.State.{State}
use Rattle.rpc_machine.specs.Nodes.{is_import}
use Rattle.rpc_machine.specs.Progress.{Progress}
use Rattle.rpc_machine.specs.Collecting.{ImportGoes, without_import}
use Rattle.rpc_machine.specs.World.{World, Happens}
use Rattle.rpc_machine_examples.specs.Given.{m, ref_id, call_id, export_id, headed_by, release_message, sending, delivering, between, did, took}
use Rattle.rpc_machine_examples.specs.Across.{the_call, delivery, waits, object, promised, relay}
use Rattle.rpc_machine_examples.specs.BackAndForth.{going, leads, disembargo, echo, promise_id, wire, said, own_promise, a0, a1, a2, to_object, a3, turned, embargo, a4, a5, a6, a7, a8, a9, a10, a11, a12, a13, second, b0, b1, b2, b3, b4, b5, b6, b7, before, all_known, half_way, after, IsBackAndForth}
use Rattle.rpc_machine_examples.proofs.GivenMaps.{progress}
use Rattle.rpc_machine_examples.proofs.StepTools.{maps, ends_quietly, ends_losing_one, command_happens, message_comes}

-- ---- The promises are resolved

abbrev k1 : World
k1 = between a0 (leads 1 0 ∷ []) b1 []

abbrev k2 : World
k2 = between a1 [] b1 []

abbrev k3 : World
k3 = between a2 [] b1 (leads 0 2 ∷ [])

abbrev k4 : World
k4 = between a2 [] b2 []

abbrev k5 : World
k5 = between a2 (leads 2 1 ∷ []) b3 []

first_resolved : Happens before (did B (command.Resolve (promise_id 0) (ref_id 0)) granted.Done (sending (leads 1 0 ∷ []))) k1
first_resolved =
    let y = sending (leads 1 0 ∷ []) in
    let s : State = record b0 { unsettled = map.remove b0.unsettled 0; promises = map.insert b0.promises 0 (promise.Fixed (wire 0)) } in
    let none : Progress = progress s (sending []) in
    let all : Progress = progress s y in
    command_happens B before k1 (command.Resolve (promise_id 0) (ref_id 0)) granted.Done y all b1 refl (simp maps)
    (simp maps (refl, (none, refl, simp maps (all, (descriptor.ReceiverHosted (export_id 0), s, (refl, refl), refl), refl)))) (ends_quietly s b1 y (simp maps) (simp maps)) (simp maps) refl

first_known : Happens k1 (took A (sending [])) k2
first_known =
    let x = sending [] in
    let s : State = record a1 { imports = map.insert a0.imports 1 (promised (Some (said 0 own_promise))) } in
    message_comes A k1 k2 (leads 1 0) [] x (progress s x) a1 refl refl (simp maps) (simp maps) (ends_quietly s a1 x (simp maps) (simp maps)) (simp maps) refl

own_resolved : Happens k2 (did A (command.Resolve (promise_id 0) (ref_id 1)) granted.Done (sending (leads 0 2 ∷ []))) k3
own_resolved =
    let y = sending (leads 0 2 ∷ []) in
    let s : State = record a1 { unsettled = map.remove a1.unsettled 0; promises = map.insert a1.promises 0 (promise.Fixed (wire 2)) } in
    let none : Progress = progress s (sending []) in
    let all : Progress = progress s y in
    command_happens A k2 k3 (command.Resolve (promise_id 0) (ref_id 1)) granted.Done y all a2 refl (simp maps)
    (simp maps (refl, (none, refl, simp maps (all, (descriptor.ReceiverHosted (export_id 2), s, (refl, refl), refl), refl)))) (ends_quietly s a2 y (simp maps) (simp maps)) (simp maps) refl

own_known : Happens k3 (took B (sending [])) k4
own_known =
    let x = sending [] in
    let s : State = record b2 { imports = map.insert b1.imports 0 (promised (Some (said 2 second))) } in
    message_comes B k3 k4 (leads 0 2) [] x (progress s x) b2 refl refl (simp maps) (simp maps) (ends_quietly s b2 x (simp maps) (simp maps)) (simp maps) refl

second_resolved : Happens k4 (did B (command.Resolve (promise_id 1) (ref_id 1)) granted.Done (sending (leads 2 1 ∷ []))) k5
second_resolved =
    let y = sending (leads 2 1 ∷ []) in
    let s : State = record b2 { unsettled = map.remove b2.unsettled 1; promises = map.insert b2.promises 1 (promise.Fixed (wire 1)) } in
    let none : Progress = progress s (sending []) in
    let all : Progress = progress s y in
    command_happens B k4 k5 (command.Resolve (promise_id 1) (ref_id 1)) granted.Done y all b3 refl (simp maps)
    (simp maps (refl, (none, refl, simp maps (all, (descriptor.ReceiverHosted (export_id 1), s, (refl, refl), refl), refl)))) (ends_quietly s b3 y (simp maps) (simp maps)) (simp maps) refl

second_known : Happens k5 (took A (sending [])) all_known
second_known =
    let x = sending [] in
    let s : State = record a3 { imports = map.insert a2.imports 2 to_object } in
    message_comes A k5 all_known (leads 2 1) [] x (progress s x) a3 refl refl (simp maps) (simp maps) (ends_quietly s a3 x (simp maps) (simp maps)) (simp maps) refl

-- ---- The first shorter path

abbrev t1 : World
t1 = between a4 [] b3 (going 0 1 0 ∷ [])

abbrev t2 : World
t2 = between a5 [] b3 (going 0 1 0 ∷ disembargo 1 ∷ release_message 1 1 ∷ [])

abbrev t3 : World
t3 = between a6 [] b3 (going 0 1 0 ∷ disembargo 1 ∷ release_message 1 1 ∷ [])

abbrev t4 : World
t4 = between a6 (going 0 0 0 ∷ []) b4 (disembargo 1 ∷ release_message 1 1 ∷ [])

abbrev t5 : World
t5 = between a6 (going 0 0 0 ∷ echo 0 ∷ []) b4 (release_message 1 1 ∷ [])

abbrev t6 : World
t6 = between a6 (going 0 0 0 ∷ echo 0 ∷ []) b5 []

abbrev t7 : World
t7 = between a7 (echo 0 ∷ []) b5 (going 1 2 0 ∷ [])

first_call : Happens all_known (did A (command.Call the_call) (granted.Call (call_id 0)) (sending (going 0 1 0 ∷ []))) t1
first_call =
    let x = sending (going 0 1 0 ∷ []) in
    let s : State = record a4 { refs = map.insert a3.refs 0 (headed_by (wire 1) 1) } in
    command_happens A all_known t1 (command.Call the_call) (granted.Call (call_id 0)) x (progress s x) a4 refl (simp maps) (simp maps (refl, (0, (refl, ([], _, refl, refl))))) (ends_quietly s a4 x (simp maps) (simp maps)) (simp maps) refl

-- Nothing names B's first promise any more: it is released.
turns : Happens t1 (did A (command.Advance (ref_id 0)) (granted.Advanced advanced.Embargoed) (sending (disembargo 1 ∷ release_message 1 1 ∷ []))) t2
turns =
    let x = sending (disembargo 1 ∷ []) in
    let y = sending (disembargo 1 ∷ release_message 1 1 ∷ []) in
    let s : State = record a4 { refs = map.insert a4.refs 0 (turned own_promise 1); embargoes = m ((0, embargo own_promise []) ∷ []) } in
    command_happens A t1 t2 (command.Advance (ref_id 0)) (granted.Advanced advanced.Embargoed) y (progress s x) a5 refl (simp maps) (simp maps (inr ((λ e. let f : true ≡ false = ap (is_import 2) e in cc), (refl, (0, refl, refl)))))
    (ends_losing_one s a5 x y (without_import (progress s x) 1) (ImportGoes 1 (simp maps) refl) (simp maps) (simp maps) (simp maps))
    (simp maps) refl

second_call : Happens t2 (did A (command.Call the_call) (granted.Call (call_id 1)) (sending [])) t3
second_call =
    let x = sending [] in
    let s : State = record a6 { refs = map.insert a5.refs 0 (turned own_promise 2); embargoes = map.insert a5.embargoes 0 (embargo own_promise (waits 1 0 ∷ [])) } in
    command_happens A t2 t3 (command.Call the_call) (granted.Call (call_id 1)) x (progress s x) a6 refl (simp maps) (simp maps (refl, (0, refl, refl))) (ends_quietly s a6 x (simp maps) (simp maps)) (simp maps) refl

goes_on : Happens t3 (took B (sending (going 0 0 0 ∷ []))) t4
goes_on =
    let x = sending (going 0 0 0 ∷ []) in
    message_comes B t3 t4 (going 0 1 0) (disembargo 1 ∷ release_message 1 1 ∷ []) x (progress b4 x) b4 refl refl (simp maps) (0, simp maps, simp maps (0, (refl, ([], _, refl, refl)))) (ends_quietly b4 b4 x (simp maps) refl) (simp maps) refl

echoes : Happens t4 (took B (sending (echo 0 ∷ []))) t5
echoes =
    let x = sending (echo 0 ∷ []) in
    message_comes B t4 t5 (disembargo 1) (release_message 1 1 ∷ []) x (progress b4 x) b4 refl refl (simp maps) (simp maps) (ends_quietly b4 b4 x (simp maps) refl) (simp maps) refl

let_go : Happens t5 (took B (sending [])) t6
let_go =
    let x = sending [] in
    let s : State = record b4 { exports = map.remove b4.exports 1 } in
    message_comes B t5 t6 (release_message 1 1) [] x (progress s x) b5 refl refl (simp maps) (simp maps) (ends_quietly s b5 x (simp maps) (simp maps)) (simp maps) refl

-- The first call comes back, and goes out once more.
second_trip : Happens t6 (took A (sending (going 1 2 0 ∷ []))) t7
second_trip =
    let x = sending (going 1 2 0 ∷ []) in
    let s : State = record a7 { questions = map.insert a6.questions 1 (relay 1) } in
    message_comes A t6 t7 (going 0 0 0) (echo 0 ∷ []) x (progress s x) a7 refl refl (simp maps) (1, simp maps, simp maps (1, (refl, ([], _, refl, refl)))) (ends_quietly s a7 x (simp maps) (simp maps)) (simp maps) refl

-- The second call goes out behind it.
lifts : Happens t7 (took A (sending (going 2 2 1 ∷ []))) half_way
lifts =
    let y = sending (going 2 2 1 ∷ []) in
    let s0 : State = record a7 { refs = map.insert a7.refs 0 (headed_by own_promise 2); embargoes = map.remove a7.embargoes 0 } in
    let s : State = record s0 { questions = map.insert s0.questions 2 (relay 0) } in
    message_comes A t7 half_way (echo 0) [] y (progress s y) a8 refl refl (simp maps)
    (simp maps (progress s y, (2, (refl, ([], s0, refl, refl))), refl))
    (ends_quietly s a8 y (simp maps) (simp maps)) (simp maps) refl

-- ---- The second

abbrev u1 : World
u1 = between a9 [] b5 (going 1 2 0 ∷ going 2 2 1 ∷ disembargo 2 ∷ [])

abbrev u2 : World
u2 = between a10 [] b5 (going 1 2 0 ∷ going 2 2 1 ∷ disembargo 2 ∷ [])

abbrev u3 : World
u3 = between a10 (going 1 1 0 ∷ []) b6 (going 2 2 1 ∷ disembargo 2 ∷ [])

abbrev u4 : World
u4 = between a10 (going 1 1 0 ∷ going 2 1 1 ∷ []) b7 (disembargo 2 ∷ [])

abbrev u5 : World
u5 = between a10 (going 1 1 0 ∷ going 2 1 1 ∷ echo 1 ∷ []) b7 []

abbrev u6 : World
u6 = between a11 (going 2 1 1 ∷ echo 1 ∷ []) b7 []

abbrev u7 : World
u7 = between a12 (echo 1 ∷ []) b7 []

turns_again : Happens half_way (did A (command.Advance (ref_id 0)) (granted.Advanced advanced.Embargoed) (sending (disembargo 2 ∷ []))) u1
turns_again =
    let x = sending (disembargo 2 ∷ []) in
    let s : State = record a8 { refs = map.insert a8.refs 0 (turned object 2); embargoes = m ((0, embargo object []) ∷ []) } in
    command_happens A half_way u1 (command.Advance (ref_id 0)) (granted.Advanced advanced.Embargoed) x (progress s x) a9 refl (simp maps) (simp maps (inr ((λ e. cc), (refl, (0, refl, refl)))))
    (ends_quietly s a9 x (simp maps) (simp maps)) (simp maps) refl

third_call : Happens u1 (did A (command.Call the_call) (granted.Call (call_id 2)) (sending [])) u2
third_call =
    let x = sending [] in
    let s : State = record a10 { refs = map.insert a9.refs 0 (turned object 3); embargoes = map.insert a9.embargoes 0 (embargo object (waits 2 2 ∷ [])) } in
    command_happens A u1 u2 (command.Call the_call) (granted.Call (call_id 2)) x (progress s x) a10 refl (simp maps) (simp maps (refl, (2, refl, refl))) (ends_quietly s a10 x (simp maps) (simp maps)) (simp maps) refl

first_goes_on : Happens u2 (took B (sending (going 1 1 0 ∷ []))) u3
first_goes_on =
    let x = sending (going 1 1 0 ∷ []) in
    message_comes B u2 u3 (going 1 2 0) (going 2 2 1 ∷ disembargo 2 ∷ []) x (progress b6 x) b6 refl refl (simp maps) (1, simp maps, simp maps (1, (refl, ([], _, refl, refl)))) (ends_quietly b6 b6 x (simp maps) refl) (simp maps) refl

second_goes_on : Happens u3 (took B (sending (going 2 1 1 ∷ []))) u4
second_goes_on =
    let x = sending (going 2 1 1 ∷ []) in
    message_comes B u3 u4 (going 2 2 1) (disembargo 2 ∷ []) x (progress b7 x) b7 refl refl (simp maps) (2, simp maps, simp maps (2, (refl, ([], _, refl, refl)))) (ends_quietly b7 b7 x (simp maps) refl) (simp maps) refl

echoes_again : Happens u4 (took B (sending (echo 1 ∷ []))) u5
echoes_again =
    let x = sending (echo 1 ∷ []) in
    message_comes B u4 u5 (disembargo 2) [] x (progress b7 x) b7 refl refl (simp maps) (simp maps) (ends_quietly b7 b7 x (simp maps) refl) (simp maps) refl

first_comes : Happens u5 (took A (delivering (delivery 0 ∷ []))) u6
first_comes =
    let x = delivering (delivery 0 ∷ []) in
    message_comes A u5 u6 (going 1 1 0) (going 2 1 1 ∷ echo 1 ∷ []) x (progress a11 x) a11 refl refl (simp maps) (3, simp maps, simp maps) (ends_quietly a11 a11 x (simp maps) refl) (simp maps) refl

second_comes : Happens u6 (took A (delivering (delivery 1 ∷ []))) u7
second_comes =
    let x = delivering (delivery 1 ∷ []) in
    message_comes A u6 u7 (going 2 1 1) (echo 1 ∷ []) x (progress a12 x) a12 refl refl (simp maps) (4, simp maps, simp maps) (ends_quietly a12 a12 x (simp maps) refl) (simp maps) refl

lifts_again : Happens u7 (took A (delivering (delivery 2 ∷ []))) after
lifts_again =
    let y = delivering (delivery 2 ∷ []) in
    let s0 : State = record a12 { refs = map.insert a12.refs 0 (headed_by object 3); embargoes = map.remove a12.embargoes 0 } in
    let s : State = record s0 { tasks = map.insert s0.tasks 2 2; next_task = 3 } in
    message_comes A u7 after (echo 1) [] y (progress s y) a13 refl refl (simp maps)
    (simp maps (progress s y, refl, refl))
    (ends_quietly s a13 y (simp maps) (simp maps)) (simp maps) refl

pub is_back_and_forth : IsBackAndForth
is_back_and_forth = record {
  resolves = (k1, first_resolved, (k2, first_known, (k3, own_resolved, (k4, own_known, (k5, second_resolved, (all_known, second_known, refl))))));
  turns = (t1, first_call, (t2, turns, (t3, second_call, (t4, goes_on, (t5, echoes, (t6, let_go, (t7, second_trip, (half_way, lifts, refl))))))));
  turns_again = (u1, turns_again, (u2, third_call, (u3, first_goes_on, (u4, second_goes_on, (u5, echoes_again, (u6, first_comes, (u7, second_comes, (after, lifts_again, refl))))))));
  made_so = refl;
  none_delivered = refl;
  delivered_so = refl;
  two_pending = simp maps;
  none_pending = simp maps;
}
