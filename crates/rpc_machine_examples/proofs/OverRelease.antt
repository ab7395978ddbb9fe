-- The run in which both vats go down, event by event.
use Rattle.std.proofs.Common.{◌≡◌, ℕ, [], ◌∷◌, Some, refl}
use Rattle.std.specs.FinMap as map
use Rattle.rpc_msg.specs.declared.ids.Vat.TheVariants.{A, B}
use Rattle.rpc_machine.specs.declared.command.Command.TheVariants as command
use Rattle.rpc_machine.specs.State.{State}
use Rattle.rpc_machine.specs.Faults.{fault_of}
use Rattle.rpc_machine.specs.World.{World, Happens, Run}
use Rattle.rpc_machine_examples.specs.Given.{null, direct_with, task_id, release_message, telling, between, took}
use Rattle.rpc_machine_examples.specs.OneCall.{root_return, root_told, root_said, the_call, a_called, a_told, b_tasked}
use Rattle.rpc_machine_examples.specs.OverRelease.{abort, goes_down, hostile, b_fell, both_down, events, OverReleaseEndsBoth}
use Rattle.rpc_machine_examples.proofs.GivenMaps.{progress}
use Rattle.rpc_machine_examples.proofs.StepTools.{maps, ends_quietly, message_comes, message_faults, command_when_down}

abbrev d1 : World
d1 = between a_called (root_return ∷ abort ∷ []) b_fell (the_call ∷ [])

abbrev d2 : World
d2 = between a_told (abort ∷ []) b_fell (the_call ∷ [])

falls : (n : ℕ) → fault_of b_tasked (release_message 0 n) ≡ Some 24 → Happens (hostile n) (took B (goes_down (abort ∷ []) 24)) d1
falls n f = message_faults B (hostile n) d1 (release_message 0 n) (the_call ∷ []) 24 refl refl f refl

root_is_told : Happens d1 (took A (telling (root_told ∷ []))) d2
root_is_told =
    let x = telling (root_told ∷ []) in
    let s : State = record a_told { questions = map.insert a_called.questions 0 (direct_with 0 (Some root_said)) } in
    message_comes A d1 d2 root_return (abort ∷ []) x (progress s x) a_told refl refl (simp maps) (simp maps) (ends_quietly s a_told x (simp maps) (simp maps)) (simp maps) refl

ends_both : (n : ℕ) → fault_of b_tasked (release_message 0 n) ≡ Some 24 → Run (hostile n) events both_down
ends_both n f =
    (d1, falls n f, (d1, command_when_down B d1 (command.Answer (task_id 0) null []) 24 refl refl, (d1, (refl, refl), (d2, root_is_told, (both_down, message_faults A d2 both_down abort [] 34 refl refl refl refl, refl)))))

pub over_release : OverReleaseEndsBoth
over_release = record { of_none = ends_both 0 (simp maps); of_two = ends_both 2 (simp maps); written = refl }
