-- The run of an object that is given with two calls, event by event.
use Rattle.std.proofs.Common.{List, [], ◌∷◌, ◌++◌, Some, refl, sym, ap, append-nil}
use Rattle.std.specs.FinMap as map
use Rattle.rpc_msg.specs.declared.ids.Vat.TheVariants.{A, B}
use Rattle.rpc_msg.specs.declared.message.Message.{Message}
use Rattle.rpc_msg.specs.declared.message.ReturnBody.TheVariants as body
use Rattle.rpc_machine.specs.declared.command.Command.TheVariants as command
use Rattle.rpc_machine.specs.declared.command.Granted.TheVariants as granted
use Rattle.rpc_machine.specs.State.{State}
use Rattle.rpc_machine.specs.Progress.{Progress}
use Rattle.rpc_machine.specs.World.{World, Happens}
use Rattle.rpc_machine_examples.specs.Given.{null, ref_id, call_id, task_id, headed_by, direct_with, for_peer, bootstrap_message, sending, delivering, telling, between, did, took}
use Rattle.rpc_machine_examples.specs.OneCall.{root_return, pipe, root_said, b_new, b_gave}
use Rattle.rpc_machine_examples.specs.Relayed.{giving_call, given_as, giving_message, object, asked_giving, a_gave, empty_value, giving_answer, b_tasked}
use Rattle.rpc_machine_examples.specs.GivenBack.{root_told, end_told, returned, sent}
use Rattle.rpc_machine_examples.specs.GivenTwice.{giving_again, delivery_again, returned_again, end_told_again, asked_again, a_twice, a_root, end_said, a_one_left, a_ended, received, second_answer, b_both, b_dropped, b_first, b_second, both_sent, both_received, first_answered, both_answered, both_told, IsGivenTwice}
use Rattle.rpc_machine_examples.proofs.GivenMaps.{progress}
use Rattle.rpc_machine_examples.proofs.StepTools.{maps, ends_quietly, collects_quietly, command_happens, message_comes}
use Rattle.rpc_machine_examples.proofs.OneCall.{root_leads, root_asked, w1, w2, asks, names_field}
use Rattle.rpc_machine_examples.proofs.Relayed.{r3, hosts, calls_giving, giving_comes}

abbrev one_to_come : World
one_to_come = between a_twice (root_return ∷ []) b_tasked (giving_again ∷ [])

abbrev dropped : World
dropped = between a_twice (root_return ∷ []) b_dropped []

abbrev root_come : World
root_come = between a_root (returned ∷ returned_again ∷ []) b_second []

abbrev one_come : World
one_come = between a_one_left (returned_again ∷ []) b_second []

-- A gives the object again, whatever is on its way and whatever B holds.
pub calls_again : (to_a : List Message) (b : State) (to_b : List Message) → Happens (between a_gave to_a b to_b) (did A (command.Call giving_call) (granted.Call (call_id 2)) (sending (giving_again ∷ []))) (between a_twice to_a b (to_b ++ giving_again ∷ []))
calls_again to_a b to_b =
    let x = sending (giving_again ∷ []) in
    let s : State = record a_twice { refs = map.insert a_gave.refs 0 (headed_by pipe 2); exports = map.insert a_gave.exports 0 (record { node = object; count = 2 }) } in
    let described : State = record s { questions = a_gave.questions } in
    command_happens A (between a_gave to_a b to_b) (between a_twice to_a b (to_b ++ giving_again ∷ [])) (command.Call giving_call) (granted.Call (call_id 2)) x (progress s x) a_twice refl (simp maps)
    (simp maps (refl, (2, (refl, (given_as ∷ [], described, (described, simp maps (0, refl, (refl, refl)), refl), refl)))))
    (ends_quietly s a_twice x (simp maps) (simp maps)) (simp maps) refl

again_comes : Happens one_to_come (took B (delivering (delivery_again ∷ []))) both_received
again_comes =
    let x = delivering (delivery_again ∷ []) in
    let s : State = record b_both { imports = map.insert b_tasked.imports 0 (received 2) } in
    message_comes B one_to_come both_received giving_again [] x (progress s x) b_both refl refl (simp (maps, root_leads)) (2, simp maps, simp (maps, root_leads)) (ends_quietly s b_both x (simp maps) (simp maps)) (simp maps) refl

drops : Happens both_received (did B (command.DropRef (ref_id 0)) granted.Done (sending [])) dropped
drops =
    let s : State = record b_both { refs = map.remove b_both.refs 0 } in
    command_happens B both_received dropped (command.DropRef (ref_id 0)) granted.Done (sending []) (progress s (sending [])) b_dropped refl (simp maps) (simp maps (refl, refl)) (ends_quietly s b_dropped (sending []) (simp maps) (simp maps)) (simp maps) refl

-- Two were received, and one is left to the call 2: the flag is true.
answers_first : Happens dropped (did B (command.Answer (task_id 0) null []) granted.Done (sending (returned ∷ []))) first_answered
answers_first =
    let x = sending (returned ∷ []) in
    let s0 : State = record b_dropped { tasks = map.remove b_dropped.tasks 0 } in
    let s1 : State = record s0 { outcomes = map.insert s0.outcomes 1 (for_peer 1 (Some empty_value)) } in
    let s2 : State = record s1 { imports = map.insert s1.imports 0 (received 1); answers = map.insert s1.answers 1 (giving_answer (Some [])) } in
    let s3 : State = record s2 { outcomes = map.insert s2.outcomes 1 (for_peer 1 (Some empty_value)) } in
    let then : Progress = progress s1 (sending []) in
    command_happens B dropped first_answered (command.Answer (task_id 0) null []) granted.Done x (progress s3 x) b_first refl (simp maps)
    (simp maps (refl, (empty_value, s0, ([], refl, (refl, refl)), (progress s2 x, simp maps (body.Results null [], [], s1, (refl, refl), (then, collects_quietly then (simp maps), simp maps)), (progress s3 x, refl, simp maps)))))
    (ends_quietly s3 b_first x (simp maps) (simp maps)) (simp maps) refl

-- The reference names the import too: the flag is false.
answers_second : Happens first_answered (did B (command.Answer (task_id 1) null []) granted.Done (sending (returned_again ∷ []))) both_answered
answers_second =
    let x = sending (returned_again ∷ []) in
    let s0 : State = record b_first { tasks = map.remove b_first.tasks 1 } in
    let s1 : State = record s0 { outcomes = map.insert s0.outcomes 2 (for_peer 2 (Some empty_value)) } in
    let s2 : State = record s1 { answers = map.insert s1.answers 2 (second_answer (Some [])) } in
    let s3 : State = record s2 { outcomes = map.insert s2.outcomes 2 (for_peer 2 (Some empty_value)) } in
    let then : Progress = progress s1 (sending []) in
    command_happens B first_answered both_answered (command.Answer (task_id 1) null []) granted.Done x (progress s3 x) b_second refl (simp maps)
    (simp maps (refl, (empty_value, s0, ([], refl, (refl, refl)), (progress s2 x, simp maps (body.Results null [], [], s1, (refl, refl), (then, collects_quietly then (simp maps), simp maps)), (progress s3 x, refl, simp maps)))))
    (ends_quietly s3 b_second x (simp maps) (simp maps)) (simp maps) refl

-- A is told of the Bootstrap, whatever comes behind it and whatever B holds.
pub root_is_told : (ms : List Message) (b : State) (to_b : List Message) → Happens (between a_twice (root_return ∷ ms) b to_b) (took A (telling (root_told ∷ []))) (between a_root ms b to_b)
root_is_told ms b to_b =
    let x = telling (root_told ∷ []) in
    let s : State = record a_root { questions = map.insert a_twice.questions 0 (direct_with 0 (Some root_said)) } in
    message_comes A (between a_twice (root_return ∷ ms) b to_b) (between a_root ms b to_b) root_return ms x (progress s x) a_root refl refl (simp maps) (simp maps) (ends_quietly s a_root x (simp maps) (simp maps)) (simp maps)
    (ap (λ (ns : List Message). between a_root ms b ns) (sym (append-nil to_b)))

end_is_told : Happens root_come (took A (telling (end_told ∷ []))) one_come
end_is_told =
    let x = telling (end_told ∷ []) in
    let s : State = record a_one_left { questions = map.insert a_root.questions 1 (asked_giving (Some end_said)); exports = map.insert a_root.exports 0 (record { node = object; count = 1 }) } in
    message_comes A root_come one_come returned (returned_again ∷ []) x (progress s x) a_one_left refl refl (simp maps) (simp maps) (ends_quietly s a_one_left x (simp maps) (simp maps)) (simp maps) refl

end_is_told_again : Happens one_come (took A (telling (end_told_again ∷ []))) both_told
end_is_told_again =
    let x = telling (end_told_again ∷ []) in
    let s : State = record a_ended { questions = map.insert a_one_left.questions 2 (asked_again (Some end_said)) } in
    message_comes A one_come both_told returned_again [] x (progress s x) a_ended refl refl (simp maps) (simp maps) (ends_quietly s a_ended x (simp maps) (simp maps)) (simp maps) refl

abbrev two_to_come : World
two_to_come = between a_twice (root_return ∷ []) b_gave (giving_message ∷ giving_again ∷ [])

pub is_given_twice : IsGivenTwice
is_given_twice = record {
  gives = (w1, asks, (w2, names_field, (r3, hosts, (sent, calls_giving, (both_sent, calls_again [] b_new (bootstrap_message 0 ∷ giving_message ∷ []), (two_to_come, root_asked a_twice (giving_message ∷ giving_again ∷ []), (one_to_come, giving_comes a_twice (giving_again ∷ []), (both_received, again_comes, refl))))))));
  answers = (dropped, drops, (first_answered, answers_first, (both_answered, answers_second, (root_come, root_is_told (returned ∷ returned_again ∷ []) b_second [], (one_come, end_is_told, (both_told, end_is_told_again, refl))))));
  counts_sent = record { exported_is = simp maps; imported_is = simp maps; way_is = refl };
  counts_received = record { exported_is = simp maps; imported_is = simp maps; way_is = refl };
  counts_first = record { exported_is = simp maps; imported_is = simp maps; way_is = simp maps };
  counts_second = record { exported_is = simp maps; imported_is = simp maps; way_is = simp maps };
  counts_told = record { exported_is = simp maps; imported_is = simp maps; way_is = refl };
}
