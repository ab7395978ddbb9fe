-- A delivery, a report, a Return and a Finish, as what they change of a progress and no more.
use Rattle.std.proofs.Common.{◌≡◌, ℕ, ◌+◌, [], ◌∷◌, ◌++◌, ap}
use Rattle.std.specs.FinMap as map
use Rattle.rpc_machine.specs.rpc_msg.specs.declared.ids.ObjectId.{ObjectId}
use Rattle.rpc_machine.specs.rpc_msg.specs.declared.message.PlainMessage.{PlainMessage}
use Rattle.rpc_machine.specs.rpc_msg.specs.declared.message.PlainMessage.TheVariants as plain
use Rattle.rpc_machine.specs.rpc_msg.specs.Messages.{given}
use Rattle.rpc_machine.specs.rpc_journal.specs.declared.report.Ended.{Ended}
use Rattle.rpc_machine.specs.declared.calls.WaitingCall.{WaitingCall}
use Rattle.rpc_machine.specs.declared.calls.Value.{Value}
use Rattle.rpc_machine.specs.declared.entries.AnswerEntry.{AnswerEntry}
use Rattle.rpc_machine.specs.declared.entries.Finishing.TheVariants as finishing
use Rattle.rpc_machine.specs.declared.entries.Question.{Question}
use Rattle.rpc_machine.specs.State.{State}
use Rattle.rpc_machine.specs.Progress.{Progress, with_state, with_refs, send, tell_delivery, tell_ended, numbers, new_refs, caps_of, outcome_of}
use Rattle.rpc_machine.specs.Routing.{deliver}
use Rattle.rpc_machine.specs.Flags.{give_back, flag_for}
use Rattle.rpc_machine.specs.Settling.{report, returned_map, returned}
use Rattle.rpc_machine.specs.Sweeping.{closed_map, got_of, finished_by}
use Rattle.laws_acts.specs.Moments.{Saying}
use Rattle.laws_acts.specs.SmallActs.{delivery}
use Rattle.laws_acts.proofs.Alone.{refs_alone, back_alone}

-- ---- A call is delivered

abbrev pub delivered : Progress → WaitingCall → ObjectId → Progress
delivered p c o =
    let s = p.state in
    record p {
      state = record s {
        refs = (with_refs s c.request.caps).refs;
        next_ref = (with_refs s c.request.caps).next_ref;
        tasks = map.insert s.tasks s.next_task c.outcome;
        next_task = s.next_task + 1;
      };
      effects = record (p.effects) { deliveries = p.effects.deliveries ++ delivery s c o ∷ [] };
    }

pub delivers : (p : Progress) (c : WaitingCall) (o : ObjectId) → deliver p c o ≡ delivered p c o
delivers p c o =
    ap (λ (u : State). tell_delivery (with_state p (record u { tasks = map.insert p.state.tasks p.state.next_task c.outcome; next_task = p.state.next_task + 1 })) (delivery p.state c o)) (refs_alone p.state c.request.caps)

-- ---- The application is told of an outcome

abbrev ended : State → ℕ → Value → Ended
ended s c v = record { call = record { 0 = c }; outcome = outcome_of v; refs = new_refs s.next_ref (caps_of v) }

abbrev pub reported : Progress → ℕ → Value → Progress
reported p c v = record p {
  state = record (p.state) { refs = (with_refs p.state (caps_of v)).refs; next_ref = (with_refs p.state (caps_of v)).next_ref };
  effects = record (p.effects) { answers = p.effects.answers ++ ended p.state c v ∷ [] };
}

pub reports : (p : Progress) (c : ℕ) (v : Value) → report p c v ≡ reported p c v
reports p c v = ap (λ (u : State). tell_ended (with_state p u) (ended p.state c v)) (refs_alone p.state (caps_of v))

-- ---- A Return is sent

abbrev pub return_message : Progress → Saying → AnswerEntry → PlainMessage
return_message p x a = plain.Return (record { answer = x.answer; release_param_caps = flag_for p.state (numbers a.taken); body = x.body })

abbrev pub sent_return : Progress → Saying → AnswerEntry → Progress
sent_return p x a =
    send
    (with_state p (record (p.state) { imports = (give_back p.state (numbers a.taken)).imports; answers = returned_map p.state.answers x.answer.0 a a.finished (given x.descriptors) }))
    (return_message p x a)

pub sends_return : (p : Progress) (x : Saying) (a : AnswerEntry) → send (with_state p (returned (give_back p.state (numbers a.taken)) x.answer.0 a (given x.descriptors))) (return_message p x a) ≡ sent_return p x a
sends_return p x a =
    ap (λ (u : State). send (with_state p (record u { answers = returned_map u.answers x.answer.0 a a.finished (given x.descriptors) })) (return_message p x a)) (back_alone p.state (numbers a.taken))

-- ---- A Finish is sent

abbrev finish_message : Progress → ℕ → Question → PlainMessage
finish_message p q x = plain.Finish (record { question = record { 0 = q }; release_result_caps = flag_for p.state (got_of x.returned) })

abbrev pub sent_finish : Progress → ℕ → Question → Progress
sent_finish p q x =
    send (with_state p (record (p.state) { imports = (give_back p.state (got_of x.returned)).imports; questions = closed_map p.state.questions q x x.returned })) (finish_message p q x)

pub sends_finish : (p : Progress) (q : ℕ) (x : Question) → finished_by p q x finishing.Owed ≡ sent_finish p q x
sends_finish p q x = ap (λ (u : State). send (with_state p (record u { questions = closed_map u.questions q x x.returned })) (finish_message p q x)) (back_alone p.state (got_of x.returned))
