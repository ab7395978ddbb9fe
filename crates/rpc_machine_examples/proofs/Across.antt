-- The run of a promise that is resolved across vats, event by event.
use Rattle.std.proofs.Common.{[], ◌∷◌, inr, refl}
use Rattle.std.specs.FinMap as map
use Rattle.rpc_msg.specs.declared.ids.Vat.TheVariants.{A, B}
use Rattle.rpc_msg.specs.declared.parts.Descriptor.TheVariants as descriptor
use Rattle.rpc_journal.specs.declared.report.Advanced.TheVariants as advanced
use Rattle.rpc_machine.specs.declared.command.Command.TheVariants as command
use Rattle.rpc_machine.specs.declared.command.Granted.TheVariants as granted
use Rattle.rpc_machine.specs.declared.calls.Promise.TheVariants as promise
use Rattle.rpc_machine.specs.State.{State}
use Rattle.rpc_machine.specs.Progress.{Progress}
use Rattle.rpc_machine.specs.Collecting.{ImportGoes, without_import}
use Rattle.rpc_machine.specs.World.{World, Happens}
use Rattle.rpc_machine_examples.specs.Given.{m, ref_id, call_id, export_id, headed_by, release_message, sending, delivering, between, did, took}
use Rattle.rpc_machine_examples.specs.Across.{the_call, to_promise, back_again, resolve, disembargo, echo, delivery, waits, object, wire, a0, a1, a2, a3, a4, a5, resolved_import, a6, turned, embargo, a7, a8, a9, a10, a11, import_node, b0, b1, b2, relay, b3, b4, b5, before, turned_back, after, ResolvesAcross}
use Rattle.rpc_machine_examples.proofs.GivenMaps.{progress}
use Rattle.rpc_machine_examples.proofs.StepTools.{maps, ends_quietly, ends_losing_one, command_happens, message_comes}

abbrev x1 : World
x1 = between a1 [] b0 (to_promise 0 ∷ [])

abbrev x2 : World
x2 = between a2 [] b0 (to_promise 0 ∷ to_promise 1 ∷ [])

abbrev x3 : World
x3 = between a2 [] b1 (to_promise 1 ∷ [])

abbrev x4 : World
x4 = between a2 [] b2 []

abbrev x5 : World
x5 = between a2 (back_again 0 ∷ back_again 1 ∷ resolve ∷ []) b3 []

abbrev x6 : World
x6 = between a3 (back_again 0 ∷ back_again 1 ∷ resolve ∷ []) b3 (to_promise 2 ∷ [])

abbrev x7 : World
x7 = between a4 (back_again 1 ∷ resolve ∷ []) b3 (to_promise 2 ∷ [])

abbrev x8 : World
x8 = between a5 (resolve ∷ []) b3 (to_promise 2 ∷ [])

abbrev x9 : World
x9 = between a6 [] b3 (to_promise 2 ∷ [])

abbrev x10 : World
x10 = between a7 [] b3 (to_promise 2 ∷ disembargo ∷ release_message 1 1 ∷ [])

abbrev x11 : World
x11 = between a8 [] b3 (to_promise 2 ∷ disembargo ∷ release_message 1 1 ∷ [])

abbrev x13 : World
x13 = between a9 (back_again 2 ∷ []) b4 (disembargo ∷ release_message 1 1 ∷ [])

abbrev x14 : World
x14 = between a9 (back_again 2 ∷ echo ∷ []) b4 (release_message 1 1 ∷ [])

abbrev x15 : World
x15 = between a9 (back_again 2 ∷ echo ∷ []) b5 []

abbrev x16 : World
x16 = between a10 (echo ∷ []) b5 []

first_call : Happens before (did A (command.Call the_call) (granted.Call (call_id 0)) (sending (to_promise 0 ∷ []))) x1
first_call =
    let x = sending (to_promise 0 ∷ []) in
    let s : State = record a1 { refs = map.insert a0.refs 0 (headed_by wire 1) } in
    command_happens A before x1 (command.Call the_call) (granted.Call (call_id 0)) x (progress s x) a1 refl (simp maps) (simp maps (refl, (0, (refl, ([], _, refl, refl))))) (ends_quietly s a1 x (simp maps) (simp maps)) (simp maps) refl

second_call : Happens x1 (did A (command.Call the_call) (granted.Call (call_id 1)) (sending (to_promise 1 ∷ []))) x2
second_call =
    let x = sending (to_promise 1 ∷ []) in
    let s : State = record a2 { refs = map.insert a1.refs 0 (headed_by wire 2) } in
    command_happens A x1 x2 (command.Call the_call) (granted.Call (call_id 1)) x (progress s x) a2 refl (simp maps) (simp maps (refl, (1, (refl, ([], _, refl, refl))))) (ends_quietly s a2 x (simp maps) (simp maps)) (simp maps) refl

first_waits : Happens x2 (took B (sending [])) x3
first_waits =
    let x = sending [] in
    let s : State = record b1 { promises = map.insert b0.promises 0 (promise.Open (waits 0 0 ∷ [])) } in
    message_comes B x2 x3 (to_promise 0) (to_promise 1 ∷ []) x (progress s x) b1 refl refl (simp maps) (0, simp maps, simp maps) (ends_quietly s b1 x (simp maps) (simp maps)) (simp maps) refl

second_waits : Happens x3 (took B (sending [])) x4
second_waits =
    let x = sending [] in
    let s : State = record b2 { promises = map.insert b1.promises 0 (promise.Open (waits 0 0 ∷ waits 1 1 ∷ [])) } in
    message_comes B x3 x4 (to_promise 1) [] x (progress s x) b2 refl refl (simp maps) (1, simp maps, simp maps) (ends_quietly s b2 x (simp maps) (simp maps)) (simp maps) refl

-- The calls go on to A's object, in order, and then the Resolve.
resolves : Happens x4 (did B (command.Resolve (record { 0 = 0 }) (ref_id 0)) granted.Done (sending (back_again 0 ∷ back_again 1 ∷ resolve ∷ []))) x5
resolves =
    let y = sending (back_again 0 ∷ back_again 1 ∷ resolve ∷ []) in
    let s0 : State = record b2 { unsettled = map.remove b2.unsettled 0; promises = map.insert b2.promises 0 (promise.Fixed import_node) } in
    let s1 : State = record s0 { questions = m ((0, relay 0) ∷ []) } in
    let s2 : State = record s0 { questions = m ((1, relay 1) ∷ (0, relay 0) ∷ []) } in
    let one : Progress = progress s1 (sending (back_again 0 ∷ [])) in
    let two : Progress = progress s2 (sending (back_again 0 ∷ back_again 1 ∷ [])) in
    let all : Progress = progress s2 y in
    command_happens B x4 x5 (command.Resolve (record { 0 = 0 }) (ref_id 0)) granted.Done y all b3 refl (simp maps)
    (simp maps (
      refl,
      (
        two,
        (one, (0, (refl, ([], s0, refl, refl))), (two, simp maps (1, (refl, ([], s1, refl, refl))), refl)),
        simp maps (all, (descriptor.ReceiverHosted (export_id 0), s2, (refl, refl), refl), refl),
      ),
    ))
    (ends_quietly s2 b3 y (simp maps) (simp maps)) (simp maps) refl

third_call : Happens x5 (did A (command.Call the_call) (granted.Call (call_id 2)) (sending (to_promise 2 ∷ []))) x6
third_call =
    let x = sending (to_promise 2 ∷ []) in
    let s : State = record a3 { refs = map.insert a2.refs 0 (headed_by wire 3) } in
    command_happens A x5 x6 (command.Call the_call) (granted.Call (call_id 2)) x (progress s x) a3 refl (simp maps) (simp maps (refl, (2, (refl, ([], _, refl, refl))))) (ends_quietly s a3 x (simp maps) (simp maps)) (simp maps) refl

first_comes : Happens x6 (took A (delivering (delivery 0 ∷ []))) x7
first_comes =
    let x = delivering (delivery 0 ∷ []) in
    message_comes A x6 x7 (back_again 0) (back_again 1 ∷ resolve ∷ []) x (progress a4 x) a4 refl refl (simp maps) (0, simp maps, simp maps) (ends_quietly a4 a4 x (simp maps) refl) (simp maps) refl

second_comes : Happens x7 (took A (delivering (delivery 1 ∷ []))) x8
second_comes =
    let x = delivering (delivery 1 ∷ []) in
    message_comes A x7 x8 (back_again 1) (resolve ∷ []) x (progress a5 x) a5 refl refl (simp maps) (1, simp maps, simp maps) (ends_quietly a5 a5 x (simp maps) refl) (simp maps) refl

resolve_comes : Happens x8 (took A (sending [])) x9
resolve_comes =
    let x = sending [] in
    let s : State = record a5 { imports = map.insert a5.imports 1 resolved_import } in
    message_comes A x8 x9 resolve [] x (progress s x) a6 refl refl (simp maps) (simp maps) (ends_quietly s a6 x (simp maps) (simp maps)) (simp maps) refl

turns : Happens x9 (did A (command.Advance (ref_id 0)) (granted.Advanced advanced.Embargoed) (sending (disembargo ∷ release_message 1 1 ∷ []))) x10
turns =
    let x = sending (disembargo ∷ []) in
    let y = sending (disembargo ∷ release_message 1 1 ∷ []) in
    let s : State = record a6 { refs = map.insert a6.refs 0 (turned 3); embargoes = m ((0, embargo []) ∷ []) } in
    command_happens A x9 x10 (command.Advance (ref_id 0)) (granted.Advanced advanced.Embargoed) y (progress s x) a7 refl (simp maps) (simp maps (inr ((λ e. cc), (refl, (0, refl, refl)))))
    (ends_losing_one s a7 x y (without_import (progress s x) 1) (ImportGoes 1 (simp maps) refl) (simp maps) (simp maps) (simp maps))
    (simp maps) refl

fourth_call : Happens x10 (did A (command.Call the_call) (granted.Call (call_id 3)) (sending [])) x11
fourth_call =
    let x = sending [] in
    let s : State = record a8 { refs = map.insert a7.refs 0 (turned 4); embargoes = map.insert a7.embargoes 0 (embargo (waits 3 2 ∷ [])) } in
    command_happens A x10 x11 (command.Call the_call) (granted.Call (call_id 3)) x (progress s x) a8 refl (simp maps) (simp maps (refl, (2, refl, refl))) (ends_quietly s a8 x (simp maps) (simp maps)) (simp maps) refl

fifth_call : Happens x11 (did A (command.Call the_call) (granted.Call (call_id 4)) (sending [])) turned_back
fifth_call =
    let x = sending [] in
    let s : State = record a9 { refs = map.insert a8.refs 0 (turned 5); embargoes = map.insert a8.embargoes 0 (embargo (waits 3 2 ∷ waits 4 3 ∷ [])) } in
    command_happens A x11 turned_back (command.Call the_call) (granted.Call (call_id 4)) x (progress s x) a9 refl (simp maps) (simp maps (refl, (3, refl, refl))) (ends_quietly s a9 x (simp maps) (simp maps)) (simp maps) refl

third_goes_on : Happens turned_back (took B (sending (back_again 2 ∷ []))) x13
third_goes_on =
    let x = sending (back_again 2 ∷ []) in
    message_comes B turned_back x13 (to_promise 2) (disembargo ∷ release_message 1 1 ∷ []) x (progress b4 x) b4 refl refl (simp maps) (2, simp maps, simp maps (2, (refl, ([], _, refl, refl)))) (ends_quietly b4 b4 x (simp maps) refl) (simp maps) refl

echoes : Happens x13 (took B (sending (echo ∷ []))) x14
echoes =
    let x = sending (echo ∷ []) in
    message_comes B x13 x14 disembargo (release_message 1 1 ∷ []) x (progress b4 x) b4 refl refl (simp maps) (simp maps) (ends_quietly b4 b4 x (simp maps) refl) (simp maps) refl

let_go : Happens x14 (took B (sending [])) x15
let_go =
    let x = sending [] in
    let s : State = record b4 { exports = map.remove b4.exports 1 } in
    message_comes B x14 x15 (release_message 1 1) [] x (progress s x) b5 refl refl (simp maps) (simp maps) (ends_quietly s b5 x (simp maps) (simp maps)) (simp maps) refl

third_comes : Happens x15 (took A (delivering (delivery 2 ∷ []))) x16
third_comes =
    let x = delivering (delivery 2 ∷ []) in
    message_comes A x15 x16 (back_again 2) (echo ∷ []) x (progress a10 x) a10 refl refl (simp maps) (4, simp maps, simp maps) (ends_quietly a10 a10 x (simp maps) refl) (simp maps) refl

lifts : Happens x16 (took A (delivering (delivery 3 ∷ delivery 4 ∷ []))) after
lifts =
    let y = delivering (delivery 3 ∷ delivery 4 ∷ []) in
    let s0 : State = record a10 { refs = map.insert a10.refs 0 (headed_by object 5); embargoes = map.remove a10.embargoes 0 } in
    let s1 : State = record s0 { tasks = m ((3, 2) ∷ (2, 4) ∷ (1, 1) ∷ (0, 0) ∷ []); next_task = 4 } in
    let s2 : State = record s0 { tasks = m ((4, 3) ∷ (3, 2) ∷ (2, 4) ∷ (1, 1) ∷ (0, 0) ∷ []); next_task = 5 } in
    message_comes A x16 after echo [] y (progress s2 y) a11 refl refl (simp maps)
    (simp maps (progress s1 (delivering (delivery 3 ∷ [])), refl, (progress s2 y, simp maps, refl)))
    (ends_quietly s2 a11 y (simp maps) (simp maps)) (simp maps) refl

pub resolves_across : ResolvesAcross
resolves_across = record {
  turns = (x1, first_call, (x2, second_call, (x3, first_waits, (x4, second_waits, (x5, resolves, (x6, third_call, (x7, first_comes, (x8, second_comes, (x9, resolve_comes, (x10, turns, (x11, fourth_call, (turned_back, fifth_call, refl))))))))))));
  comes_back = (x13, third_goes_on, (x14, echoes, (x15, let_go, (x16, third_comes, (after, lifts, refl)))));
  made_so = refl;
  delivered_first = refl;
  delivered_then = refl;
  three_pending = simp maps;
  none_pending = simp maps;
}
