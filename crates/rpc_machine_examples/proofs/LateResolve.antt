-- The run of a promise that is dropped and then resolved, event by event.
use Rattle.std.proofs.Common.{[], ◌∷◌, refl}
use Rattle.std.specs.FinMap as map
use Rattle.rpc_msg.specs.declared.ids.Vat.TheVariants.{A, B}
use Rattle.rpc_msg.specs.declared.parts.Descriptor.TheVariants as descriptor
use Rattle.rpc_machine.specs.declared.command.Command.TheVariants as command
use Rattle.rpc_machine.specs.declared.command.Granted.TheVariants as granted
use Rattle.rpc_machine.specs.declared.calls.Promise.TheVariants as promise
use Rattle.rpc_machine.specs.State.{State}
use Rattle.rpc_machine.specs.Nodes.{is_same_node}
use Rattle.rpc_machine.specs.Progress.{Progress}
use Rattle.rpc_machine.specs.Collecting.{ImportGoes, without_import}
use Rattle.rpc_machine.specs.World.{World, Happens}
use Rattle.rpc_machine_examples.specs.Given.{m, ref_id, export_id, release_message, sending, between, did, took}
use Rattle.rpc_machine_examples.specs.LateResolve.{resolve, a0, a1, hosted, object, export, b0, b1, b2, b3, before, crossing, let_go, after, IsLateResolve}
use Rattle.rpc_machine_examples.proofs.GivenMaps.{progress}
use Rattle.rpc_machine_examples.proofs.StepTools.{maps, ends_quietly, ends_losing_one, not_exported, command_happens, message_comes}

abbrev dropped : World
dropped = between a1 [] b0 (release_message 1 1 ∷ [])

abbrev one_gone : World
one_gone = between a1 [] b2 (release_message 2 1 ∷ [])

drops : Happens before (did A (command.DropRef (ref_id 0)) granted.Done (sending (release_message 1 1 ∷ []))) dropped
drops =
    let x = sending [] in
    let y = sending (release_message 1 1 ∷ []) in
    let s : State = record a0 { refs = map.remove a0.refs 0 } in
    command_happens A before dropped (command.DropRef (ref_id 0)) granted.Done y (progress s x) a1 refl (simp maps) (simp maps (refl, refl))
    (ends_losing_one s a1 x y (without_import (progress s x) 1) (ImportGoes 1 (simp maps) refl) (simp maps) (simp maps) (simp maps))
    (simp maps) refl

resolves : Happens dropped (did B (command.Resolve (record { 0 = 0 }) (ref_id 1)) granted.Done (sending (resolve ∷ []))) crossing
resolves =
    let x = sending [] in
    let y = sending (resolve ∷ []) in
    let s0 : State = record b0 { unsettled = map.remove b0.unsettled 0; promises = map.insert b0.promises 0 (promise.Fixed object) } in
    let s : State = record s0 { exports = map.insert s0.exports 2 (export object) } in
    let none : Progress = progress s0 x in
    command_happens B dropped crossing (command.Resolve (record { 0 = 0 }) (ref_id 1)) granted.Done y (progress s y) b1 refl (simp maps)
    (simp maps (refl, (none, refl, simp maps (progress s y, (descriptor.SenderHosted (export_id 2), s, (2, refl, (not_exported (is_same_node object) s0 object refl (simp maps), refl)), refl), refl))))
    (ends_quietly s b1 y (simp maps) (simp maps)) (simp maps) refl

-- What the Resolve gives is taken, and nothing names it.
resolve_comes : Happens crossing (took A (sending (release_message 2 1 ∷ []))) let_go
resolve_comes =
    let x = sending [] in
    let y = sending (release_message 2 1 ∷ []) in
    let s : State = record a1 { imports = m ((2, hosted) ∷ []) } in
    message_comes A crossing let_go resolve [] y (progress s x) a1 refl refl (simp maps) (simp maps)
    (ends_losing_one s a1 x y (without_import (progress s x) 2) (ImportGoes 2 (simp maps) refl) (simp maps) (simp maps) (simp maps))
    (simp maps) refl

promise_goes : Happens let_go (took B (sending [])) one_gone
promise_goes =
    let x = sending [] in
    let s : State = record b1 { exports = map.remove b1.exports 1 } in
    message_comes B let_go one_gone (release_message 1 1) (release_message 2 1 ∷ []) x (progress s x) b2 refl refl (simp maps) (simp maps) (ends_quietly s b2 x (simp maps) (simp maps)) (simp maps) refl

object_goes : Happens one_gone (took B (sending [])) after
object_goes =
    let x = sending [] in
    let s : State = record b2 { exports = map.remove b2.exports 2 } in
    message_comes B one_gone after (release_message 2 1) [] x (progress s x) b3 refl refl (simp maps) (simp maps) (ends_quietly s b3 x (simp maps) (simp maps)) (simp maps) refl

pub is_late_resolve : IsLateResolve
is_late_resolve = record {
  runs = (dropped, drops, (crossing, resolves, (let_go, resolve_comes, (one_gone, promise_goes, (after, object_goes, refl)))));
  promise_before = record { exported_is = simp maps; imported_is = simp maps; way_is = refl };
  promise_crossing = record { exported_is = simp maps; imported_is = simp maps; way_is = refl };
  object_crossing = record { exported_is = simp maps; imported_is = simp maps; way_is = refl };
  object_let_go = record { exported_is = simp maps; imported_is = simp maps; way_is = refl };
  promise_after = record { exported_is = simp maps; imported_is = simp maps; way_is = refl };
  object_after = record { exported_is = simp maps; imported_is = simp maps; way_is = refl };
}
