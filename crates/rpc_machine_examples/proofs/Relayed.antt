-- The run of a relayed call, event by event.
use Rattle.std.proofs.Common.{false, List, [], ◌∷◌, None, Some, inl, refl}
use Rattle.std.specs.FinMap as map
use Rattle.rpc_msg.specs.declared.ids.Vat.TheVariants.{A, B}
use Rattle.rpc_msg.specs.declared.message.Message.{Message}
use Rattle.rpc_msg.specs.declared.message.ReturnBody.TheVariants as body
use Rattle.rpc_machine.specs.declared.command.Command.TheVariants as command
use Rattle.rpc_machine.specs.declared.command.Granted.TheVariants as granted
use Rattle.rpc_machine.specs.declared.entries.Question.{Question}
use Rattle.rpc_machine.specs.declared.entries.Returned.TheVariants as back
use Rattle.rpc_machine.specs.State.{State}
use Rattle.rpc_machine.specs.Progress.{Progress}
use Rattle.rpc_machine.specs.Collecting.{OutcomeGoes, without_outcome}
use Rattle.rpc_machine.specs.Settling.{behind, OneMore, NoneLeft}
use Rattle.rpc_machine.specs.Steps.{Ends}
use Rattle.rpc_machine.specs.Sweeping.{closed}
use Rattle.rpc_machine.specs.World.{World, Happens}
use Rattle.rpc_machine_examples.specs.Given.{m, null, one_field, ref_id, call_id, task_id, object_id, headed_by, direct_with, for_peer, bootstrap_message, finish_message, sending, delivering, telling, between, did, took}
use Rattle.rpc_machine_examples.specs.OneCall.{root_return, pipe, root_said, b_new, b_gave}
use Rattle.rpc_machine_examples.specs.Relayed.{path, giving_call, through_result, given_as, came_as, giving_message, result_message, given_return, relayed_call, own_return, relayed_return, giving_delivery, relayed_delivery, root_told, given_told, end_told, field_pipe, a_hosted, asked_giving, a_gave, a_piped, a_again, a_root, given_said, a_given, own_answer, a_tasked, empty_value, a_answered, a_told, a_last, import_node, giving_answer, b_tasked, result_answer, waited_for, b_held, given_value, relay, b_relays, b_relayed, on_its_way, all_over, IsRelayed}
use Rattle.rpc_machine_examples.proofs.GivenMaps.{progress}
use Rattle.rpc_machine_examples.proofs.StepTools.{maps, ends_quietly, ends_losing_one, sweeps_finishing_one, withers_quietly, collects_quietly, leads_elsewhere, command_happens, message_comes}
use Rattle.rpc_machine_examples.proofs.OneCall.{root_leads, root_asked, w1, w2, asks, names_field}
use Rattle.rpc_machine_examples.proofs.EarlyFinish.{field_leads}

abbrev pub r3 : World
r3 = between a_hosted [] b_new (bootstrap_message 0 ∷ [])

abbrev r4 : World
r4 = between a_gave [] b_new (bootstrap_message 0 ∷ giving_message ∷ [])

abbrev r5 : World
r5 = between a_piped [] b_new (bootstrap_message 0 ∷ giving_message ∷ [])

abbrev r6 : World
r6 = between a_again [] b_new (bootstrap_message 0 ∷ giving_message ∷ result_message ∷ [])

abbrev r7 : World
r7 = between a_again (root_return ∷ []) b_gave (giving_message ∷ result_message ∷ [])

abbrev r8 : World
r8 = between a_again (root_return ∷ []) b_tasked (result_message ∷ [])

abbrev r9 : World
r9 = between a_again (root_return ∷ []) b_held []

abbrev r10 : World
r10 = between a_again (root_return ∷ given_return ∷ relayed_call ∷ []) b_relays []

abbrev r11 : World
r11 = between a_root (given_return ∷ relayed_call ∷ []) b_relays []

abbrev r13 : World
r13 = between a_tasked [] b_relays []

abbrev r14 : World
r14 = between a_answered [] b_relays (own_return ∷ [])

abbrev r15 : World
r15 = between a_answered (relayed_return ∷ finish_message 0 false ∷ []) b_relayed []

abbrev r16 : World
r16 = between a_told (finish_message 0 false ∷ []) b_relayed []

pub hosts : Happens w2 (did A (command.Host (object_id 9)) (granted.Reference (ref_id 1)) (sending [])) r3
hosts =
    command_happens A w2 r3 (command.Host (object_id 9)) (granted.Reference (ref_id 1)) (sending []) (progress a_hosted (sending [])) a_hosted refl refl (refl, refl) (ends_quietly a_hosted a_hosted (sending []) (simp maps) refl) (simp maps) refl

pub calls_giving : Happens r3 (did A (command.Call giving_call) (granted.Call (call_id 1)) (sending (giving_message ∷ []))) r4
calls_giving =
    let x = sending (giving_message ∷ []) in
    let s : State = record a_gave { refs = map.insert a_hosted.refs 0 (headed_by pipe 1) } in
    let described : State = record s { questions = a_hosted.questions } in
    command_happens A r3 r4 (command.Call giving_call) (granted.Call (call_id 1)) x (progress s x) a_gave refl (simp maps)
    (simp maps (refl, (1, (refl, (given_as ∷ [], described, (described, simp maps (0, refl, ((λ e. tt), refl)), refl), refl)))))
    (ends_quietly s a_gave x (simp maps) (simp maps)) (simp maps) refl

names_result : Happens r4 (did A (command.Field (call_id 1) path) (granted.Reference (ref_id 2)) (sending [])) r5
names_result =
    let s : State = record a_gave { refs = map.insert a_gave.refs 2 (headed_by field_pipe 0); next_ref = 3 } in
    command_happens A r4 r5 (command.Field (call_id 1) path) (granted.Reference (ref_id 2)) (sending []) (progress s (sending [])) a_piped refl (simp maps) (simp maps (refl, refl)) (ends_quietly s a_piped (sending []) (simp maps) (simp maps)) (simp maps) refl

calls_result : Happens r5 (did A (command.Call through_result) (granted.Call (call_id 2)) (sending (result_message ∷ []))) r6
calls_result =
    let x = sending (result_message ∷ []) in
    let s : State = record a_again { refs = map.insert a_piped.refs 2 (headed_by field_pipe 1) } in
    command_happens A r5 r6 (command.Call through_result) (granted.Call (call_id 2)) x (progress s x) a_again refl (simp maps) (simp maps (refl, (2, (refl, ([], _, refl, refl))))) (ends_quietly s a_again x (simp maps) (simp maps)) (simp maps) refl

pub giving_comes : (a : State) (ms : List Message) → Happens (between a (root_return ∷ []) b_gave (giving_message ∷ ms)) (took B (delivering (giving_delivery ∷ []))) (between a (root_return ∷ []) b_tasked ms)
giving_comes a ms =
    let x = delivering (giving_delivery ∷ []) in
    message_comes B (between a (root_return ∷ []) b_gave (giving_message ∷ ms)) (between a (root_return ∷ []) b_tasked ms) giving_message ms x (progress b_tasked x) b_tasked refl refl (simp (maps, root_leads)) (1, simp maps, simp (maps, root_leads)) (ends_quietly b_tasked b_tasked x (simp maps) refl) (simp maps) refl

result_comes : Happens r8 (took B (sending [])) r9
result_comes =
    let x = sending [] in
    let s : State = record b_held { outcomes = map.insert (map.insert b_tasked.outcomes 2 (for_peer 2 None)) 1 waited_for } in
    message_comes B r8 r9 result_message [] x (progress s x) b_held refl refl (simp maps) (2, simp maps, simp maps) (ends_quietly s b_held x (simp maps) (simp maps)) (simp maps) refl

-- B answers with A's object: the call that waited goes back to A.
answers : Happens r9 (did B (command.Answer (task_id 0) one_field (ref_id 0 ∷ [])) granted.Done (sending (given_return ∷ relayed_call ∷ []))) r10
answers =
    let y = sending (given_return ∷ relayed_call ∷ []) in
    let s0 : State = record b_held { tasks = map.remove b_held.tasks 0 } in
    let s1 : State = record s0 { outcomes = map.insert s0.outcomes 1 (record waited_for { value = Some given_value }) } in
    let s2 : State = record s1 { answers = map.insert s1.answers 1 (giving_answer (Some [])) } in
    let s3 : State = record s2 { outcomes = map.insert s2.outcomes 1 (for_peer 1 (Some given_value)) } in
    let s4 : State = record s3 { questions = m ((0, relay) ∷ []) } in
    let told : Progress = progress s2 (sending (given_return ∷ [])) in
    let then : Progress = progress s1 (sending []) in
    command_happens B r9 r10 (command.Answer (task_id 0) one_field (ref_id 0 ∷ [])) granted.Done y (progress s4 y) b_relays refl (simp maps)
    (simp maps (
      refl,
      (
        given_value,
        s0,
        (import_node ∷ [], refl, ([], s0, (refl, refl), inl (leads_elsewhere (behind s0 1 waited_for.caller waited_for.waiting one_field 0 []) 1 one_field 0 import_node refl refl, refl, refl))),
        (
          told,
          simp maps (body.Results one_field (came_as ∷ []), came_as ∷ [], s1, (refl, (s1, simp maps (refl, refl), refl)), (then, collects_quietly then (simp maps), simp maps)),
          (progress s4 y, (progress s4 y, simp (maps, field_leads) (0, (refl, ([], s3, refl, refl))), refl), simp maps),
        ),
      ),
    ))
    (ends_quietly s4 b_relays y (simp maps) (simp maps)) (simp maps) refl

root_is_told : Happens r10 (took A (telling (root_told ∷ []))) r11
root_is_told =
    let x = telling (root_told ∷ []) in
    let s : State = record a_root { questions = map.insert a_again.questions 0 (direct_with 0 (Some root_said)) } in
    message_comes A r10 r11 root_return (given_return ∷ relayed_call ∷ []) x (progress s x) a_root refl refl (simp maps) (simp maps) (ends_quietly s a_root x (simp maps) (simp maps)) (simp maps) refl

given_is_told : Happens r11 (took A (telling (given_told ∷ []))) on_its_way
given_is_told =
    let x = telling (given_told ∷ []) in
    let s : State = record a_given { questions = map.insert a_root.questions 1 (asked_giving (Some given_said)) } in
    message_comes A r11 on_its_way given_return (relayed_call ∷ []) x (progress s x) a_given refl refl (simp maps) (simp maps) (ends_quietly s a_given x (simp maps) (simp maps)) (simp maps) refl

comes_home : Happens on_its_way (took A (delivering (relayed_delivery ∷ []))) r13
comes_home =
    let x = delivering (relayed_delivery ∷ []) in
    message_comes A on_its_way r13 relayed_call [] x (progress a_tasked x) a_tasked refl refl (simp maps) (0, simp maps, simp maps) (ends_quietly a_tasked a_tasked x (simp maps) refl) (simp maps) refl

is_answered : Happens r13 (did A (command.Answer (task_id 0) null []) granted.Done (sending (own_return ∷ []))) r14
is_answered =
    let x = sending (own_return ∷ []) in
    let s0 : State = record a_tasked { tasks = map.remove a_tasked.tasks 0 } in
    let s1 : State = record s0 { outcomes = map.insert s0.outcomes 0 (for_peer 0 (Some empty_value)) } in
    let s2 : State = record s1 { answers = map.insert s1.answers 0 (own_answer (Some [])) } in
    let s3 : State = record s2 { outcomes = map.insert s2.outcomes 0 (for_peer 0 (Some empty_value)) } in
    let then : Progress = progress s1 (sending []) in
    command_happens A r13 r14 (command.Answer (task_id 0) null []) granted.Done x (progress s3 x) a_answered refl (simp maps)
    (simp maps (refl, (empty_value, s0, ([], refl, (refl, refl)), (progress s2 x, simp maps (body.Results null [], [], s1, (refl, refl), (then, collects_quietly then (simp maps), refl)), (progress s3 x, refl, simp maps)))))
    (ends_quietly s3 a_answered x (simp maps) (simp maps)) (simp maps) refl

-- What comes back is told to the one who asked, and the question that relayed it is finished.
is_relayed : Happens r14 (took B (sending (relayed_return ∷ finish_message 0 false ∷ []))) r15
is_relayed =
    let x = sending (relayed_return ∷ []) in
    let y = sending (relayed_return ∷ finish_message 0 false ∷ []) in
    let k : Question = record relay { returned = Some (back.Results null []) } in
    let s0 : State = record b_relays { questions = map.insert b_relays.questions 0 k } in
    let s1 : State = record s0 { outcomes = map.insert s0.outcomes 2 (for_peer 2 (Some empty_value)) } in
    let s2 : State = record s1 { answers = map.insert s1.answers 2 (result_answer (Some [])) } in
    let s3 : State = record s2 { outcomes = map.insert s2.outcomes 2 (for_peer 2 (Some empty_value)) } in
    let none : Progress = progress s0 (sending []) in
    let acted : Progress = record none { arisen = (2, empty_value) ∷ [] } in
    let then : Progress = progress s1 (sending []) in
    let done : Progress = progress (record s3 { questions = map.remove s3.questions 0 }) y in
    let ends : Ends acted y b_relayed = record {
      drained = progress s3 x;
      swept = progress b_relayed y;
      drains =
          OneMore {d = acted} {mid = progress s3 x} 2 empty_value [] refl
          (simp maps (empty_value, s0, ([], refl, (refl, refl)), (progress s2 x, simp maps (body.Results null [], [], s1, (refl, refl), (then, collects_quietly then (simp maps), refl)), (progress s3 x, refl, simp maps))))
          (NoneLeft refl);
      sweeps =
          sweeps_finishing_one s3 b_relayed x y 0 k done (simp maps) (tt, refl) (simp maps) (withers_quietly (progress (closed s3 0 k) x) (simp maps)) refl (simp maps) (simp maps) (simp maps);
      effects_are = refl;
      new_is = refl;
    } in
    message_comes B r14 r15 own_return [] y acted b_relayed refl refl (simp maps) (simp maps) ends (simp maps) refl

end_is_told : Happens r15 (took A (telling (end_told ∷ []))) r16
end_is_told =
    let x = telling (end_told ∷ []) in
    let s : State = record a_told { questions = map.insert a_answered.questions 2 (direct_with 2 (Some (back.Results null []))) } in
    message_comes A r15 r16 relayed_return (finish_message 0 false ∷ []) x (progress s x) a_told refl refl (simp maps) (simp maps) (ends_quietly s a_told x (simp maps) (simp maps)) (simp maps) refl

relay_over : Happens r16 (took A (sending [])) all_over
relay_over =
    let x = sending [] in
    let s : State = record a_told { answers = map.remove a_told.answers 0 } in
    message_comes A r16 all_over (finish_message 0 false) [] x (progress s x) a_last refl refl (simp maps) (simp maps)
    (ends_losing_one s a_last x x (without_outcome (progress s x) 0) (OutcomeGoes 0 (simp maps (refl, tt, refl)) refl) (simp maps) (simp maps) (simp maps))
    (simp maps) refl

pub relayed : IsRelayed
relayed = record {
  goes = (w1, asks, (w2, names_field, (r3, hosts, (r4, calls_giving, (r5, names_result, (r6, calls_result, (r7, root_asked a_again (giving_message ∷ result_message ∷ []), (r8, giving_comes a_again (result_message ∷ []), (r9, result_comes, (r10, answers, (r11, root_is_told, (on_its_way, given_is_told, refl))))))))))));
  comes_back = (r13, comes_home, (r14, is_answered, (r15, is_relayed, (r16, end_is_told, (all_over, relay_over, refl)))));
  pending_still = simp maps;
  pending_no_more = simp maps;
}
