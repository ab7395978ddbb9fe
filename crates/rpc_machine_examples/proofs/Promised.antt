-- The run of an answer that is a promise, event by event.
use Rattle.std.proofs.Common.{◌≡◌, true, false, [], ◌∷◌, None, Some, inl, inr, refl, ap}
use Rattle.std.specs.FinMap as map
use Rattle.rpc_msg.specs.declared.ids.Vat.TheVariants.{A, B}
use Rattle.rpc_msg.specs.declared.message.ReturnBody.TheVariants as body
use Rattle.rpc_journal.specs.declared.report.Advanced.TheVariants as advanced
use Rattle.rpc_machine.specs.declared.command.Command.TheVariants as command
use Rattle.rpc_machine.specs.declared.command.Granted.TheVariants as granted
use Rattle.rpc_machine.specs.Settling.{behind}
use Rattle.rpc_machine.specs.State.{State}
use Rattle.rpc_machine.specs.Nodes.{is_field, is_import, is_same_node}
use Rattle.rpc_machine.specs.Progress.{Progress}
use Rattle.rpc_machine.specs.Collecting.{ImportGoes, OutcomeGoes, without_import, without_outcome}
use Rattle.rpc_machine.specs.Sweeping.{Thing, closed}
use Rattle.rpc_machine.specs.World.{World, Happens}
use Rattle.rpc_machine_examples.specs.Given.{one_field, ref_id, call_id, task_id, export_id, object_id, headed_by, direct_with, for_peer, finish_message, sending, delivering, telling, between, did, took}
use Rattle.rpc_machine_examples.specs.OneCall.{root_return, the_call, root_told, root_said, call_answer, a_called, a_told}
use Rattle.rpc_machine_examples.specs.Promised.{path, local_call, promised_as, hosted_as, promising, resolve, local_delivery, local_told, promise_told, resolving, object_3, object_4, result, export, b1, own_outcome, b2, b3, promised_value, b4, b5, known_value, b6, b7, object_wire, promised, hosted, promise_said, a1, to_object, a2, a3, a4, tasked, over, IsPromised}
use Rattle.rpc_machine_examples.proofs.GivenMaps.{progress}
use Rattle.rpc_machine_examples.proofs.StepTools.{maps, ends_quietly, ends_losing_one, ends_finishing_one, withers_quietly, collects_quietly, leads_elsewhere, not_exported, command_happens, message_comes}
use Rattle.rpc_machine_examples.proofs.OneCall.{w1, w2, w3, w4, w5, asks, names_field, calls, root_asked, call_comes}
use Rattle.rpc_machine_examples.proofs.EarlyFinish.{field_leads}

abbrev p1 : World
p1 = between a_called (root_return ∷ []) b1 []

abbrev p2 : World
p2 = between a_called (root_return ∷ []) b2 []

abbrev p3 : World
p3 = between a_called (root_return ∷ []) b3 []

abbrev p4 : World
p4 = between a_called (root_return ∷ promising ∷ []) b4 []

abbrev p5 : World
p5 = between a_called (root_return ∷ promising ∷ []) b5 []

abbrev p6 : World
p6 = between a_called (root_return ∷ promising ∷ resolve ∷ []) b6 []

abbrev p7 : World
p7 = between a_told (promising ∷ resolve ∷ []) b6 []

abbrev p8 : World
p8 = between a1 (resolve ∷ []) b6 []

abbrev p9 : World
p9 = between a2 [] b6 []

abbrev p10 : World
p10 = between a3 [] b6 []

abbrev p11 : World
p11 = between a4 [] b6 (finish_message 1 true ∷ [])

hosts : Happens tasked (did B (command.Host (object_id 3)) (granted.Reference (ref_id 0)) (sending [])) p1
hosts = command_happens B tasked p1 (command.Host (object_id 3)) (granted.Reference (ref_id 0)) (sending []) (progress b1 (sending [])) b1 refl refl (refl, refl) (ends_quietly b1 b1 (sending []) (simp maps) refl) (simp maps) refl

calls_own : Happens p1 (did B (command.Call local_call) (granted.Call (call_id 0)) (delivering (local_delivery ∷ []))) p2
calls_own =
    let x = delivering (local_delivery ∷ []) in
    let s : State = record b2 { refs = map.insert b1.refs 0 (headed_by object_3 1) } in
    command_happens B p1 p2 (command.Call local_call) (granted.Call (call_id 0)) x (progress s x) b2 refl (simp maps) (simp maps (refl, (2, refl, refl))) (ends_quietly s b2 x (simp maps) (simp maps)) (simp maps) refl

names_result : Happens p2 (did B (command.Field (call_id 0) path) (granted.Reference (ref_id 1)) (sending [])) p3
names_result =
    command_happens B p2 p3 (command.Field (call_id 0) path) (granted.Reference (ref_id 1)) (sending []) (progress b3 (sending [])) b3 refl (simp maps) (simp maps (refl, refl)) (ends_quietly b3 b3 (sending []) (simp maps) refl) (simp maps) refl

-- The result is not known yet: it goes out as a promise.
promises_it : Happens p3 (did B (command.Answer (task_id 0) one_field (ref_id 1 ∷ [])) granted.Done (sending (promising ∷ []))) p4
promises_it =
    let x = sending (promising ∷ []) in
    let s0 : State = record b3 { tasks = map.remove b3.tasks 0 } in
    let s1 : State = record s0 { outcomes = map.insert s0.outcomes 1 (for_peer 1 (Some promised_value)) } in
    let s2 : State = record s1 { exports = map.insert s1.exports 1 (export result) } in
    let s3 : State = record s2 { answers = map.insert s2.answers 1 (call_answer (Some (export_id 1 ∷ []))) } in
    let s4 : State = record s3 { outcomes = map.insert s3.outcomes 1 (for_peer 1 (Some promised_value)) } in
    let then : Progress = progress s2 (sending []) in
    command_happens B p3 p4 (command.Answer (task_id 0) one_field (ref_id 1 ∷ [])) granted.Done x (progress s4 x) b4 refl (simp maps)
    (simp maps (
      refl,
      (
        promised_value,
        s0,
        (result ∷ [], refl, ([], s0, (refl, refl), inl (leads_elsewhere (behind s0 1 (for_peer 1 None).caller [] one_field 0 []) 1 one_field 0 result (simp maps) refl, refl, refl))),
        (
          progress s3 x,
          simp maps
              (body.Results one_field (promised_as ∷ []), promised_as ∷ [], s2, (refl, (s2, simp maps (1, refl, (not_exported (is_field 2) s1 result refl (simp maps), refl)), refl)), (then, collects_quietly then (simp maps), refl)),
          (progress s4 x, refl, simp maps),
        ),
      ),
    ))
    (ends_quietly s4 b4 x (simp maps) (simp maps)) (simp maps) refl

hosts_another : Happens p4 (did B (command.Host (object_id 4)) (granted.Reference (ref_id 2)) (sending [])) p5
hosts_another =
    command_happens B p4 p5 (command.Host (object_id 4)) (granted.Reference (ref_id 2)) (sending []) (progress b5 (sending [])) b5 refl refl (refl, refl) (ends_quietly b5 b5 (sending []) (simp maps) refl) (simp maps) refl

-- The result is known: the export of it gets its Resolve.
answers_own : Happens p5 (did B (command.Answer (task_id 1) one_field (ref_id 2 ∷ [])) granted.Done resolving) p6
answers_own =
    let x = telling (local_told ∷ []) in
    let s0 : State = record b5 { tasks = map.remove b5.tasks 1 } in
    let s1 : State = record s0 { outcomes = map.insert s0.outcomes 2 (own_outcome (Some known_value)) } in
    let s2 : State = record s1 { refs = map.insert s1.refs 3 (headed_by object_4 0); next_ref = 4 } in
    let s3 : State = record s2 { outcomes = map.insert s2.outcomes 2 (own_outcome (Some known_value)) } in
    let s4 : State = record s3 { exports = map.insert s3.exports 2 (export object_4) } in
    command_happens B p5 p6 (command.Answer (task_id 1) one_field (ref_id 2 ∷ [])) granted.Done resolving (progress s4 resolving) b6 refl (simp maps)
    (simp maps (
      refl,
      (
        known_value,
        s0,
        (object_4 ∷ [], refl, ([], s0, (refl, refl), inl (leads_elsewhere (behind s0 2 (own_outcome None).caller [] one_field 0 []) 2 one_field 0 object_4 refl refl, refl, refl))),
        (
          progress s2 x,
          simp maps,
          (progress s3 x, refl, simp (maps, field_leads) (progress s4 resolving, (hosted_as, s4, (2, refl, (not_exported (is_same_node object_4) s3 object_4 refl (simp maps), refl)), refl), refl)),
        ),
      ),
    ))
    (ends_quietly s4 b6 resolving (simp maps) (simp maps)) (simp maps) refl

root_is_told : Happens p6 (took A (telling (root_told ∷ []))) p7
root_is_told =
    let x = telling (root_told ∷ []) in
    let s : State = record a_told { questions = map.insert a_called.questions 0 (direct_with 0 (Some root_said)) } in
    message_comes A p6 p7 root_return (promising ∷ resolve ∷ []) x (progress s x) a_told refl refl (simp maps) (simp maps) (ends_quietly s a_told x (simp maps) (simp maps)) (simp maps) refl

promise_is_told : Happens p7 (took A (telling (promise_told ∷ []))) p8
promise_is_told =
    let x = telling (promise_told ∷ []) in
    let s : State = record a1 { questions = map.insert a_told.questions 1 (direct_with 1 (Some promise_said)) } in
    message_comes A p7 p8 promising (resolve ∷ []) x (progress s x) a1 refl refl (simp maps) (simp maps) (ends_quietly s a1 x (simp maps) (simp maps)) (simp maps) refl

resolve_comes : Happens p8 (took A (sending [])) p9
resolve_comes =
    let x = sending [] in
    let s : State = record a1 { imports = map.insert (map.insert a1.imports 2 hosted) 1 (promised (Some to_object)) } in
    message_comes A p8 p9 resolve [] x (progress s x) a2 refl refl (simp maps) (simp maps) (ends_quietly s a2 x (simp maps) (simp maps)) (simp maps) refl

switches : Happens p9 (did A (command.Advance (ref_id 2)) (granted.Advanced advanced.Switched) (sending [])) p10
switches =
    let x = sending [] in
    let s : State = record a2 { refs = map.insert a2.refs 2 (headed_by object_wire 0) } in
    command_happens A p9 p10 (command.Advance (ref_id 2)) (granted.Advanced advanced.Switched) x (progress s x) a3 refl (simp maps) (simp maps (inr ((λ e. let f : true ≡ false = ap (is_import 2) e in cc), (refl, refl)))) (ends_quietly s a3 x (simp maps) (simp maps)) (simp maps) refl

-- Only the question names the promise: the flag takes it back, and what it led to stays.
finishes : Happens p10 (did A (command.Finish (call_id 1)) granted.Done (sending (finish_message 1 true ∷ []))) p11
finishes =
    let y = sending (finish_message 1 true ∷ []) in
    let k = direct_with 1 (Some promise_said) in
    let s : State = record a3 { calls = map.remove a3.calls 1 } in
    let done : Progress = progress (record s { imports = map.remove s.imports 1; questions = map.remove s.questions 1 }) y in
    let gone : Progress = progress (closed s 1 k) (sending []) in
    command_happens A p10 p11 (command.Finish (call_id 1)) granted.Done y (progress s (sending [])) a4 refl (simp maps) (simp maps (refl, refl))
    (ends_finishing_one s a4 (sending []) y 1 k done (simp maps) (simp maps (tt, (refl, refl))) (simp maps)
    (Thing {mid = without_import gone 1} (ImportGoes 1 (simp maps) refl) (withers_quietly (without_import gone 1) (simp maps)))
    (simp maps) (simp maps) (simp maps) (simp maps))
    (simp maps) refl

promise_over : Happens p11 (took B (sending [])) over
promise_over =
    let x = sending [] in
    let s : State = record b6 { exports = map.remove b6.exports 1; answers = map.remove b6.answers 1 } in
    message_comes B p11 over (finish_message 1 true) [] x (progress s x) b7 refl refl (simp maps) (simp maps)
    (ends_losing_one s b7 x x (without_outcome (progress s x) 1) (OutcomeGoes 1 (simp maps (refl, tt, refl)) refl) (simp maps) (simp maps) (simp maps))
    (simp maps) refl

pub is_promised : IsPromised
is_promised = record {
  begins = (w1, asks, (w2, names_field, (w3, calls, (w4, root_asked a_called (the_call ∷ []), (w5, call_comes, refl)))));
  goes_on = (p1, hosts, (p2, calls_own, (p3, names_result, (p4, promises_it, (p5, hosts_another, (p6, answers_own, (p7, root_is_told, (p8, promise_is_told, (p9, resolve_comes, (p10, switches, (p11, finishes, (over, promise_over, refl))))))))))));
}
