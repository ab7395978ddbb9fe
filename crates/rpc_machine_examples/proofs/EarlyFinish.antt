-- The run of a call that is finished early, event by event.
use Rattle.std.proofs.Common.{◌≡◌, true, false, [], ◌∷◌, None, Some, inl, refl}
use Rattle.std.specs.FinMap as map
use Rattle.rpc_msg.specs.Op.TheVariants.{Field}
use Rattle.rpc_msg.specs.CapAt.TheVariants.{Cap}
use Rattle.capn_reading.specs.Segments.{little_numbers, segments_in}
use Rattle.capn_reading.specs.Framing.{framing, segment_count, sizes}
use Rattle.capn_reading.specs.Following as following
use Rattle.capn_reading.specs.Layouts.{laid}
use Rattle.capn_reading.specs.Reading.{message_of, root_of, reading, shallow, deep, content_of, pointers_at, structs_at, elements}
use Rattle.rpc_msg.specs.declared.ids.Vat.TheVariants.{A, B}
use Rattle.rpc_msg.specs.declared.message.ReturnBody.TheVariants as body
use Rattle.rpc_machine.specs.Payloads.{cap_at}
use Rattle.rpc_machine.specs.declared.command.Command.TheVariants as command
use Rattle.rpc_machine.specs.declared.command.Granted.TheVariants as granted
use Rattle.rpc_machine.specs.Settling.{behind}
use Rattle.rpc_machine.specs.State.{State}
use Rattle.rpc_machine.specs.Progress.{Progress}
use Rattle.rpc_machine.specs.Collecting.{OutcomeGoes, without_outcome}
use Rattle.rpc_machine.specs.Sweeping.{closed}
use Rattle.rpc_machine.specs.World.{World, Happens}
use Rattle.rpc_machine_examples.specs.Given.{m, one_field, ref_id, call_id, task_id, object_id, headed_by, direct, direct_with, for_peer, bootstrap_message, finish_message, sending, delivering, telling, between, did, took}
use Rattle.rpc_machine_examples.specs.OneCall.{root_return, the_call, root_said, delivery, b_new, b_gave, b_tasked, root_answer}
use Rattle.rpc_machine_examples.specs.EarlyFinish.{path, second_call, second_message, canceled_return, root_told, field_pipe, a_piped, a_again, a_dropped, finished_early, a_over, a_root, a_free, second_answer, waited_for, b_held, b_marked, other_object, b_hosted, results, b_went_on, going_on, both_hold, both_went_on, IsEarlyFinish}
use Rattle.rpc_machine_examples.proofs.GivenMaps.{progress}
use Rattle.rpc_machine_examples.proofs.StepTools.{maps, ends_quietly, ends_losing_one, ends_finishing_one, withers_quietly, collects_quietly, leads_elsewhere, command_happens, message_comes}
use Rattle.rpc_machine_examples.proofs.OneCall.{root_leads, root_asked, w1, w2, w3, asks, names_field, calls}

pub field_leads : cap_at one_field (Field 0 ∷ []) ≡ Cap 0
unfolding message_of root_of reading shallow deep content_of pointers_at structs_at elements framing segment_count sizes following.leads following.far little_numbers segments_in laid
field_leads = refl

abbrev e4 : World
e4 = between a_piped [] b_new (bootstrap_message 0 ∷ the_call ∷ [])

abbrev e5 : World
e5 = between a_again [] b_new (bootstrap_message 0 ∷ the_call ∷ second_message ∷ [])

abbrev e6 : World
e6 = between a_dropped [] b_new (bootstrap_message 0 ∷ the_call ∷ second_message ∷ [])

abbrev e7 : World
e7 = between a_over [] b_new (bootstrap_message 0 ∷ the_call ∷ second_message ∷ finish_message 1 false ∷ [])

abbrev e8 : World
e8 = between a_over (root_return ∷ []) b_gave (the_call ∷ second_message ∷ finish_message 1 false ∷ [])

abbrev e9 : World
e9 = between a_over (root_return ∷ []) b_tasked (second_message ∷ finish_message 1 false ∷ [])

abbrev e10 : World
e10 = between a_over (root_return ∷ []) b_held (finish_message 1 false ∷ [])

abbrev e12 : World
e12 = between a_over (root_return ∷ []) b_hosted []

abbrev e13 : World
e13 = between a_over (root_return ∷ canceled_return ∷ []) b_went_on []

abbrev e14 : World
e14 = between a_root (canceled_return ∷ []) b_went_on []

names_result : Happens w3 (did A (command.Field (call_id 1) path) (granted.Reference (ref_id 1)) (sending [])) e4
names_result =
    command_happens A w3 e4 (command.Field (call_id 1) path) (granted.Reference (ref_id 1)) (sending []) (progress a_piped (sending [])) a_piped refl (simp maps) (simp maps (refl, refl)) (ends_quietly a_piped a_piped (sending []) (simp maps) refl) (simp maps) refl

calls_result : Happens e4 (did A (command.Call second_call) (granted.Call (call_id 2)) (sending (second_message ∷ []))) e5
calls_result =
    let x = sending (second_message ∷ []) in
    let s : State = record a_again { refs = map.insert a_piped.refs 1 (headed_by field_pipe 1) } in
    command_happens A e4 e5 (command.Call second_call) (granted.Call (call_id 2)) x (progress s x) a_again refl (simp maps) (simp maps (refl, (2, (refl, ([], _, refl, refl))))) (ends_quietly s a_again x (simp maps) (simp maps)) (simp maps) refl

drops : Happens e5 (did A (command.DropRef (ref_id 1)) granted.Done (sending [])) e6
drops =
    let s : State = record a_again { refs = map.remove a_again.refs 1 } in
    command_happens A e5 e6 (command.DropRef (ref_id 1)) granted.Done (sending []) (progress s (sending [])) a_dropped refl (simp maps) (simp maps (refl, refl)) (ends_quietly s a_dropped (sending []) (simp maps) (simp maps)) (simp maps) refl

finishes_early : Happens e6 (did A (command.Finish (call_id 1)) granted.Done (sending (finish_message 1 false ∷ []))) e7
finishes_early =
    let y = sending (finish_message 1 false ∷ []) in
    let s : State = record a_dropped { calls = map.remove a_dropped.calls 1 } in
    let done : Progress = progress (record s { questions = map.insert s.questions 1 finished_early }) y in
    command_happens A e6 e7 (command.Finish (call_id 1)) granted.Done y (progress s (sending [])) a_over refl (simp maps) (simp maps (refl, refl))
    (ends_finishing_one s a_over (sending []) y 1 (direct 1) done (simp maps) (simp maps (tt, (refl, refl))) (simp maps) (withers_quietly (progress (closed s 1 (direct 1)) (sending [])) (simp maps)) refl (simp maps) (simp maps) (simp maps))
    (simp maps) refl

call_comes : Happens e8 (took B (delivering (delivery ∷ []))) e9
call_comes =
    let x = delivering (delivery ∷ []) in
    message_comes B e8 e9 the_call (second_message ∷ finish_message 1 false ∷ []) x (progress b_tasked x) b_tasked refl refl (simp (maps, root_leads)) (1, simp maps, simp (maps, root_leads)) (ends_quietly b_tasked b_tasked x (simp maps) refl) (simp maps) refl

-- The second call waits.
second_comes : Happens e9 (took B (sending [])) e10
second_comes =
    let x = sending [] in
    let s : State = record b_tasked {
      answers = m ((2, second_answer) ∷ (1, record { outcome = 1; taken = []; returned = None; finished = false }) ∷ (0, root_answer) ∷ []);
      outcomes = map.insert (map.insert b_tasked.outcomes 2 (for_peer 2 None)) 1 waited_for;
    } in
    message_comes B e9 e10 second_message (finish_message 1 false ∷ []) x (progress s x) b_held refl refl (simp maps) (2, simp maps, simp maps) (ends_quietly s b_held x (simp maps) (simp maps)) (simp maps) refl

finish_comes : Happens e10 (took B (sending [])) both_hold
finish_comes =
    let x = sending [] in
    let s : State = record b_held { answers = map.insert b_held.answers 1 (record { outcome = 1; taken = []; returned = None; finished = true }) } in
    message_comes B e10 both_hold (finish_message 1 false) [] x (progress s x) b_marked refl refl (simp maps) (simp maps) (ends_quietly s b_marked x (simp maps) (simp maps)) (simp maps) refl

hosts : Happens both_hold (did B (command.Host (object_id 9)) (granted.Reference (ref_id 0)) (sending [])) e12
hosts =
    command_happens B both_hold e12 (command.Host (object_id 9)) (granted.Reference (ref_id 0)) (sending []) (progress b_hosted (sending [])) b_hosted refl refl (refl, refl) (ends_quietly b_hosted b_hosted (sending []) (simp maps) refl) (simp maps) refl

-- The outcome is known: its caller is told that it was canceled, and the call that waited goes on.
answers : Happens e12 (did B (command.Answer (task_id 0) one_field (ref_id 0 ∷ [])) granted.Done going_on) e13
answers =
    let s0 : State = record b_hosted { tasks = map.remove b_hosted.tasks 0 } in
    let s1 : State = record s0 { outcomes = map.insert s0.outcomes 1 (record waited_for { value = Some results }) } in
    let s2 : State = record s1 { answers = map.remove s1.answers 1 } in
    let s3 : State = record s2 { outcomes = map.insert s2.outcomes 1 (for_peer 1 (Some results)) } in
    let s4 : State = record s3 { tasks = map.insert s3.tasks 1 2; next_task = 2 } in
    let y = going_on in
    let told : Progress = progress s2 (sending (canceled_return ∷ [])) in
    let then : Progress = progress s1 (sending []) in
    command_happens B e12 e13 (command.Answer (task_id 0) one_field (ref_id 0 ∷ [])) granted.Done y (progress s4 y) b_went_on refl (simp maps)
    (simp maps (
      refl,
      (
        results,
        s0,
        (other_object ∷ [], refl, ([], s0, (refl, refl), inl (leads_elsewhere (behind s0 1 waited_for.caller waited_for.waiting one_field 0 []) 1 one_field 0 other_object refl refl, refl, refl))),
        (
          told,
          simp maps (body.Canceled, [], s1, (refl, refl, refl), (then, collects_quietly then (simp maps), refl)),
          (progress s4 y, (progress s4 y, simp (maps, field_leads), refl), simp maps),
        ),
      ),
    ))
    (ends_losing_one s4 b_went_on y y (without_outcome (progress s4 y) 1) (OutcomeGoes 1 (simp maps (refl, tt, refl)) refl) (simp maps) (simp maps) (simp maps))
    (simp maps) refl

root_is_told : Happens e13 (took A (telling (root_told ∷ []))) e14
root_is_told =
    let x = telling (root_told ∷ []) in
    let s : State = record a_root { questions = map.insert a_over.questions 0 (direct_with 0 (Some root_said)) } in
    message_comes A e13 e14 root_return (canceled_return ∷ []) x (progress s x) a_root refl refl (simp maps) (simp maps) (ends_quietly s a_root x (simp maps) (simp maps)) (simp maps) refl

canceled_comes : Happens e14 (took A (sending [])) both_went_on
canceled_comes =
    let x = sending [] in
    let s : State = record a_root { questions = map.remove a_root.questions 1 } in
    message_comes A e14 both_went_on canceled_return [] x (progress s x) a_free refl refl (simp maps) (simp maps) (ends_quietly s a_free x (simp maps) (simp maps)) (simp maps) refl

pub early_finish : IsEarlyFinish
early_finish = record {
  held = (w1, asks, (w2, names_field, (w3, calls, (e4, names_result, (e5, calls_result, (e6, drops, (e7, finishes_early, (e8, root_asked a_over (the_call ∷ second_message ∷ finish_message 1 false ∷ []), (e9, call_comes, (e10, second_comes, (both_hold, finish_comes, refl)))))))))));
  went_on = (e12, hosts, (e13, answers, (e14, root_is_told, (both_went_on, canceled_comes, refl))));
  written = refl;
  pending_still = simp maps;
  pending_no_more = simp maps;
}
