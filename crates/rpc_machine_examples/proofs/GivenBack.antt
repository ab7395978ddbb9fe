-- The run of an object that is given with a call and given back, event by event.
use Rattle.std.proofs.Common.{[], ◌∷◌, Some, refl}
use Rattle.std.specs.FinMap as map
use Rattle.rpc_msg.specs.declared.ids.Vat.TheVariants.{A, B}
use Rattle.rpc_msg.specs.declared.message.ReturnBody.TheVariants as body
use Rattle.rpc_machine.specs.declared.command.Command.TheVariants as command
use Rattle.rpc_machine.specs.declared.command.Granted.TheVariants as granted
use Rattle.rpc_machine.specs.declared.entries.Returned.TheVariants as back
use Rattle.rpc_machine.specs.State.{State}
use Rattle.rpc_machine.specs.Progress.{Progress}
use Rattle.rpc_machine.specs.Collecting.{ImportGoes, without_import}
use Rattle.rpc_machine.specs.World.{Happens}
use Rattle.rpc_machine_examples.specs.Given.{null, ref_id, task_id, direct_with, for_peer, release_message, sending, telling, did, took}
use Rattle.rpc_machine_examples.specs.OneCall.{root_return, root_said}
use Rattle.rpc_machine_examples.specs.Relayed.{giving_message, asked_giving, a_gave, empty_value, giving_answer, b_tasked}
use Rattle.rpc_machine_examples.specs.GivenBack.{root_told, end_told, returned, returned_kept, a_root, a_took_back, b_dropped, b_returned, b_kept, sent, asked_first, received, dropped, given_back, told_first, over, kept, released, IsGivenBack}
use Rattle.rpc_machine_examples.proofs.GivenMaps.{progress}
use Rattle.rpc_machine_examples.proofs.StepTools.{maps, ends_quietly, ends_losing_one, collects_quietly, command_happens, message_comes}
use Rattle.rpc_machine_examples.proofs.OneCall.{root_asked, w1, w2, asks, names_field}
use Rattle.rpc_machine_examples.proofs.Relayed.{r3, hosts, calls_giving, giving_comes}

drops : Happens received (did B (command.DropRef (ref_id 0)) granted.Done (sending [])) dropped
drops =
    let s : State = record b_tasked { refs = map.remove b_tasked.refs 0 } in
    command_happens B received dropped (command.DropRef (ref_id 0)) granted.Done (sending []) (progress s (sending [])) b_dropped refl (simp maps) (simp maps (refl, refl)) (ends_quietly s b_dropped (sending []) (simp maps) (simp maps)) (simp maps) refl

-- Only the unanswered call named the import: the flag is true.
answers : Happens dropped (did B (command.Answer (task_id 0) null []) granted.Done (sending (returned ∷ []))) given_back
answers =
    let x = sending (returned ∷ []) in
    let s0 : State = record b_dropped { tasks = map.remove b_dropped.tasks 0 } in
    let s1 : State = record s0 { outcomes = map.insert s0.outcomes 1 (for_peer 1 (Some empty_value)) } in
    let s2 : State = record s1 { imports = map.remove s1.imports 0; answers = map.insert s1.answers 1 (giving_answer (Some [])) } in
    let s3 : State = record s2 { outcomes = map.insert s2.outcomes 1 (for_peer 1 (Some empty_value)) } in
    let then : Progress = progress s1 (sending []) in
    command_happens B dropped given_back (command.Answer (task_id 0) null []) granted.Done x (progress s3 x) b_returned refl (simp maps)
    (simp maps (refl, (empty_value, s0, ([], refl, (refl, refl)), (progress s2 x, simp maps (body.Results null [], [], s1, (refl, refl), (then, collects_quietly then (simp maps), simp maps)), (progress s3 x, refl, simp maps)))))
    (ends_quietly s3 b_returned x (simp maps) (simp maps)) (simp maps) refl

root_is_told : Happens given_back (took A (telling (root_told ∷ []))) told_first
root_is_told =
    let x = telling (root_told ∷ []) in
    let s : State = record a_root { questions = map.insert a_gave.questions 0 (direct_with 0 (Some root_said)) } in
    message_comes A given_back told_first root_return (returned ∷ []) x (progress s x) a_root refl refl (simp maps) (simp maps) (ends_quietly s a_root x (simp maps) (simp maps)) (simp maps) refl

end_is_told : Happens told_first (took A (telling (end_told ∷ []))) over
end_is_told =
    let x = telling (end_told ∷ []) in
    let s : State = record a_root { questions = map.insert a_root.questions 1 (asked_giving (Some (back.Results null []))); exports = map.remove a_root.exports 0 } in
    message_comes A told_first over returned [] x (progress s x) a_took_back refl refl (simp maps) (simp maps) (ends_quietly s a_took_back x (simp maps) (simp maps)) (simp maps) refl

-- The reference names the import too: the flag is false.
pub answers_keeping : Happens received (did B (command.Answer (task_id 0) null []) granted.Done (sending (returned_kept ∷ []))) kept
answers_keeping =
    let x = sending (returned_kept ∷ []) in
    let s0 : State = record b_tasked { tasks = map.remove b_tasked.tasks 0 } in
    let s1 : State = record s0 { outcomes = map.insert s0.outcomes 1 (for_peer 1 (Some empty_value)) } in
    let s2 : State = record s1 { answers = map.insert s1.answers 1 (giving_answer (Some [])) } in
    let s3 : State = record s2 { outcomes = map.insert s2.outcomes 1 (for_peer 1 (Some empty_value)) } in
    let then : Progress = progress s1 (sending []) in
    command_happens B received kept (command.Answer (task_id 0) null []) granted.Done x (progress s3 x) b_kept refl (simp maps)
    (simp maps (refl, (empty_value, s0, ([], refl, (refl, refl)), (progress s2 x, simp maps (body.Results null [], [], s1, (refl, refl), (then, collects_quietly then (simp maps), simp maps)), (progress s3 x, refl, simp maps)))))
    (ends_quietly s3 b_kept x (simp maps) (simp maps)) (simp maps) refl

pub releases_later : Happens kept (did B (command.DropRef (ref_id 0)) granted.Done (sending (release_message 0 1 ∷ []))) released
releases_later =
    let y = sending (release_message 0 1 ∷ []) in
    let s : State = record b_kept { refs = map.remove b_kept.refs 0 } in
    command_happens B kept released (command.DropRef (ref_id 0)) granted.Done y (progress s (sending [])) b_returned refl (simp maps) (simp maps (refl, refl))
    (ends_losing_one s b_returned (sending []) y (without_import (progress s (sending [])) 0) (ImportGoes 0 (simp maps) refl) (simp maps) (simp maps) (simp maps))
    (simp maps) refl

pub is_given_back : IsGivenBack
is_given_back = record {
  begins = (w1, asks, (w2, names_field, (r3, hosts, (sent, calls_giving, refl))));
  goes_back = (asked_first, root_asked a_gave (giving_message ∷ []), (received, giving_comes a_gave [], (dropped, drops, (given_back, answers, (told_first, root_is_told, (over, end_is_told, refl))))));
  is_kept = (kept, answers_keeping, (released, releases_later, refl));
  counts_sent = record { exported_is = simp maps; imported_is = simp maps; way_is = refl };
  counts_received = record { exported_is = simp maps; imported_is = simp maps; way_is = refl };
  counts_dropped = record { exported_is = simp maps; imported_is = simp maps; way_is = refl };
  counts_given_back = record { exported_is = simp maps; imported_is = simp maps; way_is = simp maps };
  counts_over = record { exported_is = simp maps; imported_is = simp maps; way_is = refl };
  counts_kept = record { exported_is = simp maps; imported_is = simp maps; way_is = refl };
  counts_released = record { exported_is = simp maps; imported_is = simp maps; way_is = refl };
}
