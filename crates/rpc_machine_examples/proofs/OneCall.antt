-- The run of one call to a bootstrap object, event by event.
use Rattle.std.proofs.Common.{◌≡◌, true, false, List, [], ◌∷◌, None, Some, inl, refl}
use Rattle.std.specs.FinMap as map
use Rattle.rpc_msg.specs.declared.ids.Vat.TheVariants.{A, B}
use Rattle.rpc_msg.specs.declared.message.Message.{Message}
use Rattle.rpc_msg.specs.declared.message.ReturnBody.TheVariants as body
use Rattle.rpc_msg.specs.CapAt.TheVariants.{Cap}
use Rattle.capn_reading.specs.Segments.{little_numbers, segments_in}
use Rattle.capn_reading.specs.Framing.{framing, segment_count, sizes}
use Rattle.capn_reading.specs.Following as following
use Rattle.capn_reading.specs.Reading.{message_of, root_of, reading, deep}
use Rattle.rpc_machine.specs.Payloads.{bootstrap_payload, cap_at}
use Rattle.rpc_machine.specs.declared.command.Command.TheVariants as command
use Rattle.rpc_machine.specs.declared.command.Granted.TheVariants as granted
use Rattle.rpc_machine.specs.declared.command.Refusal.TheVariants as refusal
use Rattle.rpc_machine.specs.declared.entries.AnswerEntry.{AnswerEntry}
use Rattle.rpc_machine.specs.Settling.{behind}
use Rattle.rpc_machine.specs.State.{State}
use Rattle.rpc_machine.specs.Progress.{Progress, begin}
use Rattle.rpc_machine.specs.Collecting.{ImportGoes, OutcomeGoes, without_import, without_outcome}
use Rattle.rpc_machine.specs.Sweeping.{Thing, closed}
use Rattle.rpc_machine.specs.Messages.{Takes}
use Rattle.rpc_machine.specs.World.{World, Happens, new_world}
use Rattle.rpc_machine_examples.specs.Given.{m, null, ref_id, call_id, task_id, object_id, headed_by, direct_with, for_peer, bootstrap_message, finish_message, release_message, sending, delivering, telling, between, did, refused_with, took}
use Rattle.rpc_machine_examples.specs.OneCall.{root_descriptor, root_return, the_call, empty_return, delivery, root_told, end_told, first_call, pipe, root_said, end_said, a_asked, a_named, a_called, a_told, a_ended, a_finished, a_held, a_left, a_empty, a_other, object, root_value, end_value, root_answer, call_answer, b_new, b_gave, b_tasked, b_answered, b_finished, b_exports, b_empty, both_told, both_empty, IsOneCall}
use Rattle.rpc_machine_examples.proofs.GivenMaps.{progress}
use Rattle.rpc_machine_examples.proofs.StepTools.{maps, ends_quietly, ends_losing_one, ends_finishing_one, withers_quietly, collects_quietly, leads_elsewhere, command_happens, command_refused, message_comes}

pub root_leads : cap_at bootstrap_payload [] ≡ Cap 0
unfolding message_of root_of reading deep framing segment_count sizes following.leads little_numbers segments_in
root_leads = refl

abbrev pub w0 : World
w0 = new_world None (Some (object_id 0))

abbrev pub w1 : World
w1 = between a_asked [] b_new (bootstrap_message 0 ∷ [])

abbrev pub w2 : World
w2 = between a_named [] b_new (bootstrap_message 0 ∷ [])

abbrev pub w3 : World
w3 = between a_called [] b_new (bootstrap_message 0 ∷ the_call ∷ [])

abbrev pub w4 : World
w4 = between a_called (root_return ∷ []) b_gave (the_call ∷ [])

abbrev pub w5 : World
w5 = between a_called (root_return ∷ []) b_tasked []

abbrev pub w6 : World
w6 = between a_told [] b_tasked []

abbrev pub w7 : World
w7 = between a_told (empty_return ∷ []) b_answered []

abbrev pub w8 : World
w8 = between a_ended [] b_answered []

abbrev pub w9 : World
w9 = between a_finished [] b_answered (finish_message 1 false ∷ [])

pub asks : Happens w0 (did A command.Bootstrap (granted.Call (call_id 0)) (sending (bootstrap_message 0 ∷ []))) w1
asks =
    let x = sending (bootstrap_message 0 ∷ []) in
    command_happens A w0 w1 command.Bootstrap (granted.Call (call_id 0)) x (progress a_asked x) a_asked refl (simp maps) (simp maps (0, refl, refl, refl)) (ends_quietly a_asked a_asked x (simp maps) refl) (simp maps) refl

pub names_field : Happens w1 (did A (command.Field (call_id 0) []) (granted.Reference (ref_id 0)) (sending [])) w2
names_field =
    let x = sending [] in
    command_happens A w1 w2 (command.Field (call_id 0) []) (granted.Reference (ref_id 0)) x (progress a_named x) a_named refl (simp maps) (simp maps (refl, refl)) (ends_quietly a_named a_named x (simp maps) refl) (simp maps) refl

pub calls : Happens w2 (did A (command.Call first_call) (granted.Call (call_id 1)) (sending (the_call ∷ []))) w3
calls =
    let x = sending (the_call ∷ []) in
    let s : State = record a_called { refs = map.insert a_named.refs 0 (headed_by pipe 1) } in
    command_happens A w2 w3 (command.Call first_call) (granted.Call (call_id 1)) x (progress s x) a_called refl (simp maps) (simp maps (refl, (1, (refl, ([], _, refl, refl))))) (ends_quietly s a_called x (simp maps) (simp maps)) (simp maps) refl

abbrev pub opened : AnswerEntry
opened = record { outcome = 0; taken = []; returned = None; finished = false }

abbrev pub b_open : State
b_open = record b_new { answers = m ((0, opened) ∷ []); outcomes = m ((0, for_peer 0 None) ∷ []) }

abbrev pub b_known : State
b_known = record b_open { outcomes = map.insert b_open.outcomes 0 (for_peer 0 (Some root_value)) }

abbrev pub b_described : State
b_described = record b_known { exports = m ((0, record { node = object; count = 1 }) ∷ []) }

abbrev pub b_returned : State
b_returned = record b_described { answers = map.insert b_described.answers 0 root_answer }

abbrev pub b_settled : State
b_settled = record b_returned { outcomes = map.insert b_returned.outcomes 0 (for_peer 0 (Some root_value)) }

-- B answers the Bootstrap.
pub gives : Takes (begin b_new) (bootstrap_message 0) (progress b_settled (sending (root_return ∷ [])))
gives =
    let x = sending (root_return ∷ []) in
    let then : Progress = progress b_described (sending []) in (
      0,
      simp maps,
      simp maps (
        root_value,
        b_open,
        (object ∷ [], refl, ([], b_open, (refl, refl), inl (leads_elsewhere (behind b_open 0 (for_peer 0 None).caller [] bootstrap_payload 0 []) 0 bootstrap_payload 0 object refl refl, refl, refl))),
        (
          progress b_returned x,
          simp maps
              (body.Results bootstrap_payload (root_descriptor ∷ []), root_descriptor ∷ [], b_described, (refl, (b_described, simp maps (0, refl, ((λ e. tt), refl)), refl)), (then, collects_quietly then (simp maps), refl)),
          (progress b_settled x, refl, simp maps),
        ),
      ),
    )

pub root_asked : (a : State) (ms : List Message) → Happens (between a [] b_new (bootstrap_message 0 ∷ ms)) (took B (sending (root_return ∷ []))) (between a (root_return ∷ []) b_gave ms)
root_asked a ms =
    let x = sending (root_return ∷ []) in
    message_comes B (between a [] b_new (bootstrap_message 0 ∷ ms)) (between a (root_return ∷ []) b_gave ms) (bootstrap_message 0) ms x (progress b_settled x) b_gave refl refl (simp maps) gives (ends_quietly b_settled b_gave x (simp maps) (simp maps)) (simp maps) refl

pub call_comes : Happens w4 (took B (delivering (delivery ∷ []))) w5
call_comes =
    let x = delivering (delivery ∷ []) in
    message_comes B w4 w5 the_call [] x (progress b_tasked x) b_tasked refl refl (simp (maps, root_leads)) (1, simp maps, simp (maps, root_leads)) (ends_quietly b_tasked b_tasked x (simp maps) refl) (simp maps) refl

pub root_is_told : Happens w5 (took A (telling (root_told ∷ []))) w6
root_is_told =
    let x = telling (root_told ∷ []) in
    let s : State = record a_told { questions = map.insert a_called.questions 0 (direct_with 0 (Some root_said)) } in
    message_comes A w5 w6 root_return [] x (progress s x) a_told refl refl (simp maps) (simp maps) (ends_quietly s a_told x (simp maps) (simp maps)) (simp maps) refl

-- B answers the task.
pub answers : Happens w6 (did B (command.Answer (task_id 0) null []) granted.Done (sending (empty_return ∷ []))) w7
answers =
    let x = sending (empty_return ∷ []) in
    let s0 : State = record b_tasked { tasks = map.remove b_tasked.tasks 0 } in
    let s1 : State = record s0 { outcomes = map.insert s0.outcomes 1 (for_peer 1 (Some end_value)) } in
    let s2 : State = record s1 { answers = map.insert s1.answers 1 (call_answer (Some [])) } in
    let s3 : State = record s2 { outcomes = map.insert s2.outcomes 1 (for_peer 1 (Some end_value)) } in
    let then : Progress = progress s1 (sending []) in
    command_happens B w6 w7 (command.Answer (task_id 0) null []) granted.Done x (progress s3 x) b_answered refl (simp maps)
    (simp maps (refl, (end_value, s0, ([], refl, (refl, refl)), (progress s2 x, simp maps (body.Results null [], [], s1, (refl, refl), (then, collects_quietly then (simp maps), refl)), (progress s3 x, refl, simp maps)))))
    (ends_quietly s3 b_answered x (simp maps) (simp maps)) (simp maps) refl

pub end_is_told : Happens w7 (took A (telling (end_told ∷ []))) w8
end_is_told =
    let x = telling (end_told ∷ []) in
    let s : State = record a_ended { questions = map.insert a_told.questions 1 (direct_with 1 (Some end_said)) } in
    message_comes A w7 w8 empty_return [] x (progress s x) a_ended refl refl (simp maps) (simp maps) (ends_quietly s a_ended x (simp maps) (simp maps)) (simp maps) refl

pub finishes : Happens w8 (did A (command.Finish (call_id 1)) granted.Done (sending (finish_message 1 false ∷ []))) w9
finishes =
    let y = sending (finish_message 1 false ∷ []) in
    let k = direct_with 1 (Some end_said) in
    let s : State = record a_ended { calls = map.remove a_ended.calls 1 } in
    let done : Progress = progress (record s { questions = map.remove s.questions 1 }) y in
    command_happens A w8 w9 (command.Finish (call_id 1)) granted.Done y (progress s (sending [])) a_finished refl (simp maps) (simp maps (refl, refl))
    (ends_finishing_one s a_finished (sending []) y 1 k done (simp maps) (simp maps (tt, (refl, refl))) (simp maps) (withers_quietly (progress (closed s 1 k) (sending [])) (simp maps)) refl (simp maps) (simp maps) (simp maps))
    (simp maps) refl

pub not_again : Happens w9 (refused_with A (command.Finish (call_id 1)) refusal.UnknownCall) w9
not_again = command_refused A w9 w9 (command.Finish (call_id 1)) refusal.UnknownCall refl (simp maps) refl

pub root_finished : Happens w9 (did A (command.Finish (call_id 0)) granted.Done (sending [])) both_told
root_finished =
    let s : State = record a_finished { calls = map.remove a_finished.calls 0 } in
    command_happens A w9 both_told (command.Finish (call_id 0)) granted.Done (sending []) (progress s (sending [])) a_held refl (simp maps) (simp maps (refl, refl)) (ends_quietly s a_held (sending []) (simp maps) (simp maps)) (simp maps) refl

-- ---- The references are dropped

abbrev pub w12 : World
w12 = between a_left [] b_answered (finish_message 1 false ∷ finish_message 0 false ∷ [])

abbrev pub w13 : World
w13 = between a_empty [] b_answered (finish_message 1 false ∷ finish_message 0 false ∷ release_message 0 1 ∷ [])

abbrev pub w14 : World
w14 = between a_empty [] b_finished (finish_message 0 false ∷ release_message 0 1 ∷ [])

abbrev pub w15 : World
w15 = between a_empty [] b_exports (release_message 0 1 ∷ [])

-- The import is named by the other reference: the flag is false.
pub drops_field : Happens both_told (did A (command.DropRef (ref_id 0)) granted.Done (sending (finish_message 0 false ∷ []))) w12
drops_field =
    let y = sending (finish_message 0 false ∷ []) in
    let k = direct_with 0 (Some root_said) in
    let s : State = record a_held { refs = map.remove a_held.refs 0 } in
    let done : Progress = progress (record s { questions = map.remove s.questions 0 }) y in
    command_happens A both_told w12 (command.DropRef (ref_id 0)) granted.Done y (progress s (sending [])) a_left refl (simp maps) (simp maps (refl, refl))
    (ends_finishing_one s a_left (sending []) y 0 k done (simp maps) (simp maps (tt, (refl, refl))) (simp maps) (withers_quietly (progress (closed s 0 k) (sending [])) (simp maps)) (simp maps) (simp maps) (simp maps) (simp maps))
    (simp maps) refl

pub drops_root : Happens w12 (did A (command.DropRef (ref_id 1)) granted.Done (sending (release_message 0 1 ∷ []))) w13
drops_root =
    let y = sending (release_message 0 1 ∷ []) in
    let s : State = record a_left { refs = map.remove a_left.refs 1 } in
    command_happens A w12 w13 (command.DropRef (ref_id 1)) granted.Done y (progress s (sending [])) a_empty refl (simp maps) (simp maps (refl, refl))
    (ends_losing_one s a_empty (sending []) y (without_import (progress s (sending [])) 0) (ImportGoes 0 (simp maps) refl) (simp maps) (simp maps) (simp maps))
    (simp maps) refl

pub call_over : Happens w13 (took B (sending [])) w14
call_over =
    let x = sending [] in
    let s : State = record b_answered { answers = map.remove b_answered.answers 1 } in
    message_comes B w13 w14 (finish_message 1 false) (finish_message 0 false ∷ release_message 0 1 ∷ []) x (progress s x) b_finished refl refl (simp maps) (simp maps)
    (ends_losing_one s b_finished x x (without_outcome (progress s x) 1) (OutcomeGoes 1 (simp maps (refl, tt, refl)) refl) (simp maps) (simp maps) (simp maps))
    (simp maps) refl

pub root_over : Happens w14 (took B (sending [])) w15
root_over =
    let x = sending [] in
    let s : State = record b_finished { answers = map.remove b_finished.answers 0 } in
    message_comes B w14 w15 (finish_message 0 false) (release_message 0 1 ∷ []) x (progress s x) b_exports refl refl (simp maps) (simp maps)
    (ends_losing_one s b_exports x x (without_outcome (progress s x) 0) (OutcomeGoes 0 (simp maps (refl, tt, refl)) refl) (simp maps) (simp maps) (simp maps))
    (simp maps) refl

pub lets_go : Happens w15 (took B (sending [])) both_empty
lets_go =
    let x = sending [] in
    let s : State = record b_exports { exports = map.remove b_exports.exports 0 } in
    message_comes B w15 both_empty (release_message 0 1) [] x (progress s x) b_empty refl refl (simp maps) (simp maps) (ends_quietly s b_empty x (simp maps) (simp maps)) (simp maps) refl

-- ---- The references are dropped the other way about

abbrev pub u12 : World
u12 = between a_other [] b_answered (finish_message 1 false ∷ [])

abbrev pub u13 : World
u13 = between a_empty [] b_answered (finish_message 1 false ∷ finish_message 0 true ∷ [])

abbrev pub u14 : World
u14 = between a_empty [] b_finished (finish_message 0 true ∷ [])

pub drops_root_first : Happens both_told (did A (command.DropRef (ref_id 1)) granted.Done (sending [])) u12
drops_root_first =
    let s : State = record a_held { refs = map.remove a_held.refs 1 } in
    command_happens A both_told u12 (command.DropRef (ref_id 1)) granted.Done (sending []) (progress s (sending [])) a_other refl (simp maps) (simp maps (refl, refl)) (ends_quietly s a_other (sending []) (simp maps) (simp maps)) (simp maps) refl

-- Only the question names the import: the flag is true, and there is no Release.
pub drops_field_last : Happens u12 (did A (command.DropRef (ref_id 0)) granted.Done (sending (finish_message 0 true ∷ []))) u13
drops_field_last =
    let y = sending (finish_message 0 true ∷ []) in
    let k = direct_with 0 (Some root_said) in
    let s : State = record a_other { refs = map.remove a_other.refs 0 } in
    let done : Progress = progress (record s { imports = map.remove s.imports 0; questions = map.remove s.questions 0 }) y in
    let over : Progress = progress (closed s 0 k) (sending []) in
    command_happens A u12 u13 (command.DropRef (ref_id 0)) granted.Done y (progress s (sending [])) a_empty refl (simp maps) (simp maps (refl, refl))
    (ends_finishing_one s a_empty (sending []) y 0 k done (simp maps) (simp maps (tt, (refl, refl))) (simp maps)
    (Thing {mid = without_import over 0} (ImportGoes 0 (simp maps) refl) (withers_quietly (without_import over 0) (simp maps)))
    (simp maps) (simp maps) (simp maps) (simp maps))
    (simp maps) refl

pub call_over_again : Happens u13 (took B (sending [])) u14
call_over_again =
    let x = sending [] in
    let s : State = record b_answered { answers = map.remove b_answered.answers 1 } in
    message_comes B u13 u14 (finish_message 1 false) (finish_message 0 true ∷ []) x (progress s x) b_finished refl refl (simp maps) (simp maps)
    (ends_losing_one s b_finished x x (without_outcome (progress s x) 1) (OutcomeGoes 1 (simp maps (refl, tt, refl)) refl) (simp maps) (simp maps) (simp maps))
    (simp maps) refl

pub takes_back : Happens u14 (took B (sending [])) both_empty
takes_back =
    let x = sending [] in
    let s : State = record b_finished { exports = map.remove b_finished.exports 0; answers = map.remove b_finished.answers 0 } in
    message_comes B u14 both_empty (finish_message 0 true) [] x (progress s x) b_empty refl refl (simp maps) (simp maps)
    (ends_losing_one s b_empty x x (without_outcome (progress s x) 0) (OutcomeGoes 0 (simp maps (refl, tt, refl)) refl) (simp maps) (simp maps) (simp maps))
    (simp maps) refl

pub one_call : IsOneCall
one_call = record {
  told = (w1, asks, (w2, names_field, (w3, calls, (w4, root_asked a_called (the_call ∷ []), (w5, call_comes, (w6, root_is_told, (w7, answers, (w8, end_is_told, (w9, finishes, (w9, not_again, (both_told, root_finished, refl)))))))))));
  written = refl;
  released = (w12, drops_field, (w13, drops_root, (w14, call_over, (w15, root_over, (both_empty, lets_go, refl)))));
  released_by_flag = (u12, drops_root_first, (u13, drops_field_last, (u14, call_over_again, (both_empty, takes_back, refl))));
}
