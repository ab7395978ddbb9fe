-- The first act of a received message: what it does itself, exactly. What follows from it is done by the acts of `SmallActs`.
use Rattle.std.specs.Prelude.{◌≡◌, ◌⊎◌, ℕ, Bool, true, false, cond, None, Some, List, [], ◌∷◌, ◌++◌}
use Rattle.std.specs.FinMap as map
use Rattle.rpc_machine.specs.rpc_msg.specs.declared.ids.CallId.{CallId}
use Rattle.rpc_machine.specs.rpc_msg.specs.declared.ids.EmbargoId.{EmbargoId}
use Rattle.rpc_machine.specs.rpc_msg.specs.declared.ids.QuestionId.{QuestionId}
use Rattle.rpc_machine.specs.rpc_msg.specs.declared.parts.Descriptor.{Descriptor}
use Rattle.rpc_machine.specs.rpc_msg.specs.declared.parts.Target.{Target}
use Rattle.rpc_machine.specs.rpc_msg.specs.declared.message.Call.{Call}
use Rattle.rpc_machine.specs.rpc_msg.specs.declared.message.Return.{Return}
use Rattle.rpc_machine.specs.rpc_msg.specs.declared.message.Finish.{Finish}
use Rattle.rpc_machine.specs.rpc_msg.specs.declared.message.Resolve.{Resolve}
use Rattle.rpc_machine.specs.rpc_msg.specs.declared.message.Release.{Release}
use Rattle.rpc_machine.specs.rpc_msg.specs.declared.message.DisembargoContext.TheVariants.{SenderLoopback, ReceiverLoopback}
use Rattle.rpc_machine.specs.rpc_msg.specs.declared.message.PlainMessage.{PlainMessage}
use Rattle.rpc_machine.specs.rpc_msg.specs.declared.message.PlainMessage.TheVariants as plain
use Rattle.rpc_machine.specs.rpc_msg.specs.declared.message.Message.{Message}
use Rattle.rpc_machine.specs.rpc_msg.specs.declared.message.Message.TheVariants as message
use Rattle.rpc_machine.specs.rpc_msg.specs.Messages.{descriptors_of_body}
use Rattle.rpc_machine.specs.declared.calls.Caller.TheVariants as caller
use Rattle.rpc_machine.specs.declared.entries.Role.TheVariants as role
use Rattle.rpc_machine.specs.declared.entries.Finishing.TheVariants as finishing
use Rattle.rpc_machine.specs.declared.entries.Returned.{Returned}
use Rattle.rpc_machine.specs.declared.entries.Question.{Question}
use Rattle.rpc_machine.specs.declared.entries.AnswerEntry.{AnswerEntry}
use Rattle.rpc_machine.specs.declared.entries.Embargo.{Embargo}
use Rattle.rpc_machine.specs.State.{State}
use Rattle.rpc_machine.specs.Lists.{update}
use Rattle.rpc_machine.specs.Nodes.{settle}
use Rattle.rpc_machine.specs.Progress.{numbers}
use Rattle.rpc_machine.specs.Flags.{obey, lower_by}
use Rattle.rpc_machine.specs.Descriptors.{take_all, taken_of}
use Rattle.rpc_machine.specs.Faults.{target_node, gave, given_by, is_foreign}
use Rattle.rpc_machine.specs.Advancing.{wire_target}
use Rattle.rpc_machine.specs.Messages.{opened, received_request, bootstrap_value, results_of, value_of_results, waived, not_understood, finished_map, take_resolve, unembargoed}
use Rattle.laws_acts.specs.Moments.{Moment, in_state, sending, each_to}

-- What a Return says; of a Bootstrap or a Call that came back, that it was not understood.
pub record Back : Type 0 where
  pub question : ℕ
  pub descriptors : List Descriptor
  pub flag : Bool
  pub said : Returned
  -- no Finish is sent
  pub waives : Bool

abbrev pub returning : State → Return → Back
returning s r = record { question = r.answer.0; descriptors = descriptors_of_body r.body; flag = r.release_param_caps; said = results_of s r.body; waives = false }

abbrev pub echoed : ℕ → Back
echoed q = record { question = q; descriptors = []; flag = true; said = not_understood; waives = true }

pub data Brings (s : State) (m : Message) (b : Back) : Type 0 where
  ByReturn : (r : Return) → m ≡ message.Plain (plain.Return r) → b ≡ returning s r → Brings s m b
  ByEchoedRoot : (q : QuestionId) → m ≡ message.Unimplemented (plain.Bootstrap q) → b ≡ echoed q.0 → Brings s m b
  ByEchoedCall : (c : Call) → m ≡ message.Unimplemented (plain.Call c) → b ≡ echoed c.question.0 → Brings s m b

-- The question as it is kept then.
abbrev pub answered : Question → Bool → Returned → Question
answered x waives said = record x { returned = Some said; finish = cond waives (waived x.finish) x.finish }

-- Its descriptors are taken and its flag is obeyed.
abbrev pub brought : State → Back → Question → State
brought s b x = record s { imports = (take_all s b.descriptors).imports; exports = (obey s b.flag (numbers x.given)).exports }

pub data Consumes (d : Moment) (m : Message) (new : Moment) : Type 0 where
  OpensRoot : (q : QuestionId) (o : ℕ)
      → m ≡ message.Plain (plain.Bootstrap q)
      → map.get d.state.answers q.0 ≡ None
      → map.get d.state.outcomes o ≡ None
      → new ≡ record d { state = opened d.state q.0 o []; coming = (o, bootstrap_value d.state.bootstrap) ∷ [] }
      → Consumes d m new
  OpensCall : (c : Call) (o : ℕ)
      → m ≡ message.Plain (plain.Call c)
      → map.get d.state.answers c.question.0 ≡ None
      → map.get d.state.outcomes o ≡ None
      → new ≡ record d {
        state = record (opened d.state c.question.0 o (taken_of d.state c.descriptors)) { imports = (take_all d.state c.descriptors).imports };
        yet = (record { request = received_request d.state c; outcome = o }, target_node d.state c.target) ∷ [];
      }
      → Consumes d m new
  -- what a question says that comes back: lost where its Finish was sent; kept for a call, or for a relay
  Loses : (b : Back) (x : Question)
      → Brings d.state m b
      → map.get d.state.questions b.question ≡ Some x
      → x.returned ≡ None
      → x.finish ≡ finishing.Sent
      → new ≡ in_state d (record (brought d.state b x) { questions = map.remove d.state.questions b.question })
      → Consumes d m new
  ComesToCall : (b : Back) (x : Question) (c : CallId)
      → Brings d.state m b
      → map.get d.state.questions b.question ≡ Some x
      → x.returned ≡ None
      → (x.finish ≡ finishing.Owed) ⊎ (x.finish ≡ finishing.Waived)
      → x.role ≡ role.Direct c
      → new ≡ record d {
        state = record (brought d.state b x) { questions = map.insert d.state.questions b.question (answered x b.waives b.said) };
        telling = (caller.Application c, value_of_results b.said) ∷ [];
      }
      → Consumes d m new
  ComesToRelay : (b : Back) (x : Question) (o : ℕ)
      → Brings d.state m b
      → map.get d.state.questions b.question ≡ Some x
      → x.returned ≡ None
      → (x.finish ≡ finishing.Owed) ⊎ (x.finish ≡ finishing.Waived)
      → x.role ≡ role.Relay o
      → new ≡ record d {
        state = record (brought d.state b x) { questions = map.insert d.state.questions b.question (answered x b.waives b.said) };
        arisen = d.arisen ++ (o, value_of_results b.said) ∷ [];
      }
      → Consumes d m new
  IsFinished : (f : Finish) (a : AnswerEntry)
      → m ≡ message.Plain (plain.Finish f)
      → map.get d.state.answers f.question.0 ≡ Some a
      → a.finished ≡ false
      → new ≡ in_state d (record (d.state) {
        exports = (obey d.state f.release_result_caps (gave a.returned)).exports;
        answers = finished_map d.state.answers f.question.0 a a.returned;
      })
      → Consumes d m new
  IsResolved : (r : Resolve)
      → m ≡ message.Plain (plain.Resolve r)
      → new ≡ in_state d (record (d.state) { imports = (take_resolve d.state r.promise.0 r.to).imports })
      → Consumes d m new
  IsReleased : (r : Release)
      → m ≡ message.Plain (plain.Release r)
      → new ≡ in_state d (record (d.state) { exports = lower_by d.state.exports r.export.0 r.count })
      → Consumes d m new
  -- a Disembargo goes back, or comes back
  SendsBack : (t to : Target) (x : EmbargoId)
      → m ≡ message.Plain (plain.Disembargo (record { target = t; context = SenderLoopback x }))
      → wire_target (settle d.state (target_node d.state t)) ≡ Some to
      → new ≡ sending d (plain.Disembargo (record { target = to; context = ReceiverLoopback x }))
      → Consumes d m new
  Lifts : (t : Target) (x : EmbargoId) (b : Embargo)
      → m ≡ message.Plain (plain.Disembargo (record { target = t; context = ReceiverLoopback x }))
      → map.get d.state.embargoes x.0 ≡ Some b
      → new ≡ record d {
        state = record (d.state) { refs = update d.state.refs b.reference.0 unembargoed; embargoes = map.remove d.state.embargoes x.0 };
        yet = each_to b.node b.waiting;
      }
      → Consumes d m new
  -- what is not understood goes back: at level 0, or of another kind
  SendsForeign : (p : PlainMessage)
      → m ≡ message.Plain p
      → is_foreign d.state.level p ≡ true
      → new ≡ record d { effects = record (d.effects) { sends = d.effects.sends ++ message.Unimplemented p ∷ [] } }
      → Consumes d m new
  SendsOther : (n : ℕ)
      → m ≡ message.Plain (plain.Other n)
      → new ≡ record d { effects = record (d.effects) { sends = d.effects.sends ++ message.Unimplemented (plain.Other n) ∷ [] } }
      → Consumes d m new
  -- a Resolve, and a Release, that was not understood
  TakesBack : (r : Resolve)
      → m ≡ message.Unimplemented (plain.Resolve r)
      → new ≡ in_state d (record (d.state) { exports = (obey d.state true (given_by r.to)).exports })
      → Consumes d m new
  Ignores : (r : Release)
      → m ≡ message.Unimplemented (plain.Release r)
      → new ≡ d
      → Consumes d m new
