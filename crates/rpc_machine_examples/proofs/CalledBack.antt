-- The run of an object that is given twice with one call, and called with itself, event by event.
use Rattle.std.proofs.Common.{[], ◌∷◌, Some, refl}
use Rattle.std.specs.FinMap as map
use Rattle.rpc_msg.specs.declared.ids.Vat.TheVariants.{A, B}
use Rattle.rpc_msg.specs.declared.parts.Descriptor.TheVariants as descriptor
use Rattle.rpc_msg.specs.declared.message.ReturnBody.TheVariants as body
use Rattle.rpc_machine.specs.declared.command.Command.TheVariants as command
use Rattle.rpc_machine.specs.declared.command.Granted.TheVariants as granted
use Rattle.rpc_machine.specs.declared.entries.Returned.TheVariants as back
use Rattle.rpc_machine.specs.State.{State}
use Rattle.rpc_machine.specs.Progress.{Progress}
use Rattle.rpc_machine.specs.World.{World, Happens}
use Rattle.rpc_machine_examples.specs.Given.{null, ref_id, call_id, task_id, export_id, object_id, headed_by, direct_with, for_peer, bootstrap_message, sending, delivering, telling, between, did, took}
use Rattle.rpc_machine_examples.specs.OneCall.{root_return, pipe, root_said, b_new, b_gave}
use Rattle.rpc_machine_examples.specs.CalledBack.{giving_call, giving_message, giving_delivery, call_back, message_back, delivery_back, returned, why, failed_back, root_told, end_told, failure_told, object, a_hosted, asked_giving, a_gave, a_root, own_answer, a_tasked, a_took_back, a_cloned, failure, a_failed, import_node, received, giving_answer, b_tasked, b_called, b_one_dropped, b_dropped, empty_value, b_returned, b_told, called_back, both_dropped, given_back, taken_back, over, IsCalledBack}
use Rattle.rpc_machine_examples.proofs.GivenMaps.{progress}
use Rattle.rpc_machine_examples.proofs.StepTools.{maps, ends_quietly, collects_quietly, command_happens, message_comes}
use Rattle.rpc_machine_examples.proofs.OneCall.{root_leads, root_asked, w1, w2, asks, names_field}

abbrev c3 : World
c3 = between a_hosted [] b_new (bootstrap_message 0 ∷ [])

abbrev c4 : World
c4 = between a_gave [] b_new (bootstrap_message 0 ∷ giving_message ∷ [])

abbrev c5 : World
c5 = between a_gave (root_return ∷ []) b_gave (giving_message ∷ [])

abbrev c6 : World
c6 = between a_gave (root_return ∷ []) b_tasked []

abbrev c7 : World
c7 = between a_gave (root_return ∷ message_back ∷ []) b_called []

abbrev c8 : World
c8 = between a_root (message_back ∷ []) b_called []

abbrev c10 : World
c10 = between a_tasked [] b_one_dropped []

abbrev c14 : World
c14 = between a_cloned [] b_returned []

abbrev c15 : World
c15 = between a_failed [] b_returned (failed_back ∷ [])

hosts : Happens w2 (did A (command.Host (object_id 5)) (granted.Reference (ref_id 1)) (sending [])) c3
hosts =
    command_happens A w2 c3 (command.Host (object_id 5)) (granted.Reference (ref_id 1)) (sending []) (progress a_hosted (sending [])) a_hosted refl refl (refl, refl) (ends_quietly a_hosted a_hosted (sending []) (simp maps) refl) (simp maps) refl

-- The first descriptor makes the export, the second one counts it once more.
calls_giving : Happens c3 (did A (command.Call giving_call) (granted.Call (call_id 1)) (sending (giving_message ∷ []))) c4
calls_giving =
    let x = sending (giving_message ∷ []) in
    let given = descriptor.SenderHosted (export_id 0) in
    let asked : State = record a_gave { refs = map.insert a_hosted.refs 0 (headed_by pipe 1); questions = a_hosted.questions } in
    let once : State = record asked { exports = map.insert a_hosted.exports 0 (record { node = object; count = 1 }) } in
    let twice : State = record asked { exports = map.insert once.exports 0 (record { node = object; count = 2 }) } in
    let s : State = record twice { questions = a_gave.questions } in
    command_happens A c3 c4 (command.Call giving_call) (granted.Call (call_id 1)) x (progress s x) a_gave refl (simp maps)
    (simp maps (refl, (1, (refl, (given ∷ given ∷ [], twice, (once, simp maps (0, refl, ((λ e. tt), refl)), (twice, simp maps (0, refl, (refl, refl)), refl)), refl)))))
    (ends_quietly s a_gave x (simp maps) (simp maps)) (simp maps) refl

giving_comes : Happens c5 (took B (delivering (giving_delivery ∷ []))) c6
giving_comes =
    let x = delivering (giving_delivery ∷ []) in
    let s : State = record b_tasked { imports = map.insert (map.insert b_gave.imports 0 (received 1)) 0 (received 2) } in
    message_comes B c5 c6 giving_message [] x (progress s x) b_tasked refl refl (simp (maps, root_leads)) (1, simp maps, simp (maps, root_leads)) (ends_quietly s b_tasked x (simp maps) (simp maps)) (simp maps) refl

calls_back : Happens c6 (did B (command.Call call_back) (granted.Call (call_id 0)) (sending (message_back ∷ []))) c7
calls_back =
    let x = sending (message_back ∷ []) in
    let s : State = record b_called { refs = map.insert b_tasked.refs 0 (headed_by import_node 1) } in
    let asked : State = record s { questions = b_tasked.questions } in
    command_happens B c6 c7 (command.Call call_back) (granted.Call (call_id 0)) x (progress s x) b_called refl (simp maps)
    (simp maps (refl, (0, (refl, (descriptor.ReceiverHosted (export_id 0) ∷ [], asked, (asked, simp maps (refl, refl), refl), refl)))))
    (ends_quietly s b_called x (simp maps) (simp maps)) (simp maps) refl

root_is_told : Happens c7 (took A (telling (root_told ∷ []))) c8
root_is_told =
    let x = telling (root_told ∷ []) in
    let s : State = record a_root { questions = map.insert a_gave.questions 0 (direct_with 0 (Some root_said)) } in
    message_comes A c7 c8 root_return (message_back ∷ []) x (progress s x) a_root refl refl (simp maps) (simp maps) (ends_quietly s a_root x (simp maps) (simp maps)) (simp maps) refl

call_comes_back : Happens c8 (took A (delivering (delivery_back ∷ []))) called_back
call_comes_back =
    let x = delivering (delivery_back ∷ []) in
    message_comes A c8 called_back message_back [] x (progress a_tasked x) a_tasked refl refl (simp maps) (0, simp maps, simp maps) (ends_quietly a_tasked a_tasked x (simp maps) refl) (simp maps) refl

drops_one : Happens called_back (did B (command.DropRef (ref_id 0)) granted.Done (sending [])) c10
drops_one =
    let s : State = record b_called { refs = map.remove b_called.refs 0 } in
    command_happens B called_back c10 (command.DropRef (ref_id 0)) granted.Done (sending []) (progress s (sending [])) b_one_dropped refl (simp maps) (simp maps (refl, refl)) (ends_quietly s b_one_dropped (sending []) (simp maps) (simp maps)) (simp maps) refl

-- The unanswered call names the import still.
drops_other : Happens c10 (did B (command.DropRef (ref_id 1)) granted.Done (sending [])) both_dropped
drops_other =
    let s : State = record b_one_dropped { refs = map.remove b_one_dropped.refs 1 } in
    command_happens B c10 both_dropped (command.DropRef (ref_id 1)) granted.Done (sending []) (progress s (sending [])) b_dropped refl (simp maps) (simp maps (refl, refl)) (ends_quietly s b_dropped (sending []) (simp maps) (simp maps)) (simp maps) refl

-- Nothing else names it: the flag gives both back.
answers : Happens both_dropped (did B (command.Answer (task_id 0) null []) granted.Done (sending (returned ∷ []))) given_back
answers =
    let x = sending (returned ∷ []) in
    let s0 : State = record b_dropped { tasks = map.remove b_dropped.tasks 0 } in
    let s1 : State = record s0 { outcomes = map.insert s0.outcomes 1 (for_peer 1 (Some empty_value)) } in
    let s2 : State = record s1 { imports = map.remove (map.insert s1.imports 0 (received 1)) 0; answers = map.insert s1.answers 1 (giving_answer (Some [])) } in
    let s3 : State = record s2 { outcomes = map.insert s2.outcomes 1 (for_peer 1 (Some empty_value)) } in
    let then : Progress = progress s1 (sending []) in
    command_happens B both_dropped given_back (command.Answer (task_id 0) null []) granted.Done x (progress s3 x) b_returned refl (simp maps)
    (simp maps (refl, (empty_value, s0, ([], refl, (refl, refl)), (progress s2 x, simp maps (body.Results null [], [], s1, (refl, refl), (then, collects_quietly then (simp maps), simp maps)), (progress s3 x, refl, simp maps)))))
    (ends_quietly s3 b_returned x (simp maps) (simp maps)) (simp maps) refl

end_is_told : Happens given_back (took A (telling (end_told ∷ []))) taken_back
end_is_told =
    let x = telling (end_told ∷ []) in
    let s : State = record a_took_back {
      questions = map.insert a_tasked.questions 1 (asked_giving (Some (back.Results null [])));
      exports = map.remove (map.insert a_tasked.exports 0 (record { node = object; count = 1 })) 0;
    } in
    message_comes A given_back taken_back returned [] x (progress s x) a_took_back refl refl (simp maps) (simp maps) (ends_quietly s a_took_back x (simp maps) (simp maps)) (simp maps) refl

clones : Happens taken_back (did A (command.CloneRef (ref_id 1)) (granted.Reference (ref_id 4)) (sending [])) c14
clones =
    command_happens A taken_back c14 (command.CloneRef (ref_id 1)) (granted.Reference (ref_id 4)) (sending []) (progress a_cloned (sending [])) a_cloned refl (simp maps) (simp maps (refl, refl)) (ends_quietly a_cloned a_cloned (sending []) (simp maps) refl) (simp maps) refl

fails : Happens c14 (did A (command.Fail (task_id 0) why) granted.Done (sending (failed_back ∷ []))) c15
fails =
    let x = sending (failed_back ∷ []) in
    let s0 : State = record a_cloned { tasks = map.remove a_cloned.tasks 0 } in
    let s1 : State = record s0 { outcomes = map.insert s0.outcomes 0 (for_peer 0 (Some failure)) } in
    let s2 : State = record s1 { answers = map.insert s1.answers 0 (own_answer (Some [])) } in
    let s3 : State = record s2 { outcomes = map.insert s2.outcomes 0 (for_peer 0 (Some failure)) } in
    let then : Progress = progress s1 (sending []) in
    command_happens A c14 c15 (command.Fail (task_id 0) why) granted.Done x (progress s3 x) a_failed refl (simp maps)
    (simp maps (refl, (failure, s0, (refl, refl), (progress s2 x, simp maps (body.Exception why, [], s1, (refl, refl, refl), (then, collects_quietly then (simp maps), refl)), (progress s3 x, refl, simp maps)))))
    (ends_quietly s3 a_failed x (simp maps) (simp maps)) (simp maps) refl

failure_is_told : Happens c15 (took B (telling (failure_told ∷ []))) over
failure_is_told =
    let x = telling (failure_told ∷ []) in
    let s : State = record b_told { questions = map.insert b_returned.questions 0 (direct_with 0 (Some (back.Exception why))) } in
    message_comes B c15 over failed_back [] x (progress s x) b_told refl refl (simp maps) (simp maps) (ends_quietly s b_told x (simp maps) (simp maps)) (simp maps) refl

pub is_called_back : IsCalledBack
is_called_back = record {
  calls = (w1, asks, (w2, names_field, (c3, hosts, (c4, calls_giving, (c5, root_asked a_gave (giving_message ∷ []), (c6, giving_comes, (c7, calls_back, (c8, root_is_told, (called_back, call_comes_back, refl)))))))));
  lets_go = (c10, drops_one, (both_dropped, drops_other, (given_back, answers, (taken_back, end_is_told, (c14, clones, (c15, fails, (over, failure_is_told, refl)))))));
  counts_called = record { exported_is = simp maps; imported_is = simp maps; way_is = refl };
  counts_dropped = record { exported_is = simp maps; imported_is = simp maps; way_is = refl };
  counts_given_back = record { exported_is = simp maps; imported_is = simp maps; way_is = simp maps };
  counts_taken_back = record { exported_is = simp maps; imported_is = simp maps; way_is = refl };
}
