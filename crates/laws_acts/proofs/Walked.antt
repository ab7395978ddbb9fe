-- What a command or a message does first, in the words of `Acts`; with the acts that follow, each step is acts.
use Rattle.std.proofs.Common.{◌≡◌, ◌⊎◌, inl, inr, true, false, None, Some, refl, sym, ap, subst, ◌∙◌}
use Rattle.std.specs.FinMap as map
use Rattle.rpc_machine.specs.rpc_msg.specs.declared.message.DisembargoContext.TheVariants.{SenderLoopback, ReceiverLoopback}
use Rattle.rpc_machine.specs.rpc_msg.specs.declared.message.Return.{Return}
use Rattle.rpc_machine.specs.rpc_msg.specs.declared.message.PlainMessage.{PlainMessage}
use Rattle.rpc_machine.specs.rpc_msg.specs.declared.message.PlainMessage.TheVariants as plain
use Rattle.rpc_machine.specs.rpc_msg.specs.declared.message.Message.{Message}
use Rattle.rpc_machine.specs.rpc_msg.specs.declared.message.Message.TheVariants as message
use Rattle.rpc_machine.specs.declared.node.Node.TheVariants as node
use Rattle.rpc_machine.specs.declared.node.Reason.TheVariants.{BrokenPromise}
use Rattle.rpc_machine.specs.declared.command.Command.{Command}
use Rattle.rpc_machine.specs.declared.command.Granted.{Granted}
use Rattle.rpc_machine.specs.declared.command.Effects.{Effects}
use Rattle.rpc_machine.specs.declared.command.Level.{Level}
use Rattle.rpc_machine.specs.declared.command.Level.TheVariants.{One}
use Rattle.rpc_machine.specs.declared.calls.OwnCall.TheVariants as own
use Rattle.rpc_machine.specs.declared.entries.Finishing.{Finishing}
use Rattle.rpc_machine.specs.declared.entries.Finishing.TheVariants as finishing
use Rattle.rpc_machine.specs.declared.entries.Question.{Question}
use Rattle.rpc_machine.specs.State.{State}
use Rattle.rpc_machine.specs.Descriptors.{taken_of}
use Rattle.rpc_machine.specs.Faults.{gave, is_foreign, fault_of}
use Rattle.rpc_machine.specs.Progress.{Progress, begin, with_state}
use Rattle.rpc_machine.specs.Commands.{heads, request, counted, kept, settled_now}
use Rattle.rpc_machine.specs.Messages.{opened, finished_map, results_of, kept_returned, value_of_results}
use Rattle.rpc_machine.specs.Steps.{Does, Handles}
use Rattle.laws_acts.specs.Moments.{Moment, beginning, progress}
use Rattle.laws_acts.specs.FirstActs.{waiting_call, Starts}
use Rattle.laws_acts.specs.FirstActs as first
use Rattle.laws_acts.specs.MessageActs.{Back, returning, Brings, ByReturn, ByEchoedRoot, ByEchoedCall, answered, brought, Consumes as ConsumesFirst}
use Rattle.laws_acts.specs.MessageActs as received
use Rattle.laws_acts.specs.Acts.{Act, Acts, NoMore, Then, came, ComesTo, Consumes, IsActs}
use Rattle.laws_acts.specs.Acts as act
use Rattle.laws_acts.proofs.Alone.{describes_all, all_alone, obey_alone, resolve_alone}
use Rattle.laws_acts.proofs.Commanded as fine
use Rattle.laws_acts.proofs.Received as fine_received
use Rattle.laws_acts.proofs.Received.{brought_so}
use Rattle.laws_acts.proofs.Viewed.{View, Even, AreOurs, viewed, at_last}

-- No outcome is on its way yet.
even : {p : Progress} (new : Moment) → new.clearing ≡ None → new.saying ≡ None → AreOurs new.telling → Acts (progress new) p → View p new
even new c s t a = Even (record { clearing = c; saying = s; telling = t; acts = a })

one : {p : Progress} (new : Moment) → new.clearing ≡ None → new.saying ≡ None → AreOurs new.telling → Act p (progress new) → View p new
one new c s t a = even new c s t (Then a NoMore)

-- ---- Commands

started : (s : State) (c : Command) (g : Granted) (new : Moment) → Starts (beginning s) c g new → View (begin s) new
started s c g new (first.Hosts o e a h) = rw h (one _ refl refl tt (act.Makes (node.Object o) refl))
started s c g new (first.Clones r x e f a h) = rw h (one _ refl refl tt (act.Makes x.head refl))
started s c g new (first.Drops r x e f a h) = rw h (one _ refl refl tt (act.Drops r.0 x f refl))
started s c g new (first.AsksRoot q e f a h) = rw h (one _ refl refl tt (act.AsksRoot g (q, f, a, refl)))
started s c g new (first.CallsOut k x q t ds es e f w i j l a h) =
    let u : State = record (counted s k.reference.0 x) { calls = map.insert s.calls s.next_call (own.Direct (record { 0 = q })) } in
    rw h (one _ refl refl tt (act.CallsOut k.reference.0 x s.next_call (request s k x) t f (q, (j, (ds, record u { exports = es }, describes_all u s (λ n. refl) s.exports (heads s k.refs) ds es l, refl)))))
started s c g new (first.CallsHere k x o e f w i j a h) = rw h (one _ refl refl tt (act.Keeps k.reference.0 x s.next_call o f j refl))
started s c g new (first.CallsLater k x o m b e f w i j a h) =
    let mid = kept (with_state (begin s) (counted s k.reference.0 x)) s.next_call o in
    rw h (even _ refl refl tt (Then {mid = mid} (act.Keeps k.reference.0 x s.next_call o f j refl) (Then (act.Joins (waiting_call s k x o) m.0 b i refl) NoMore)))
started s c g new (first.NamesField k path from e f a h) = rw h (one _ refl refl tt (act.Makes _ refl))
started s c g new (first.Promises p e f a h) = rw h (one _ refl refl tt (act.Promises p f refl))
started s c g new (first.Fixes p r x key calls e f i j a h) = rw h (even _ refl refl tt (Then {mid = settled_now (begin s) p.0} (act.Unsettles p.0 refl) (Then (act.Fixes key calls x.head j refl) NoMore)))
started s c g new (first.Rejects p why key calls e f i a h) =
    rw h (even _ refl refl tt (Then {mid = settled_now (begin s) p.0} (act.Unsettles p.0 refl) (Then (act.Fixes key calls (node.Broken BrokenPromise) i refl) NoMore)))
started s c g new (first.Answers t payload refs o e f a h) = rw h (one _ refl refl tt (act.Answers t.0 refl))
started s c g new (first.Fails t why o e f a h) = rw h (one _ refl refl tt (act.Answers t.0 refl))
started s c g new (first.Finishes k from e f a h) = rw h (one _ refl refl tt (act.Finishes k.0 refl))
started s c g new (first.StaysPut r x e f a h) = rw h (even _ refl refl tt NoMore)
started s c g new (first.Breaks r x reason e f i j a h) = rw h (one _ refl refl tt (act.Heads r.0 x (node.Broken reason) f i refl))
started s c g new (first.Switches r x by n e f i j k l a h) = rw h (one _ refl refl tt (act.Heads r.0 x n f i refl))
started s c g new (first.Turns r x by n t m e f i j k l w o a h) = rw h (one _ refl refl tt (act.Turns r.0 x (Some t) n g f i (a, (m, o, refl))))

pub does : (s : State) (c : Command) (g : Granted) (x : Effects) (t : State) → Does s c g x t → IsActs (begin s) x t
does s c g x t h =
    let k = fine.does s c g x t h in
    at_last k.last x t k.ends (viewed k.last k.started k.acts (started s c g k.started k.starts))

-- ---- Received messages

-- What the message does at once, and the acts up to that moment.
abbrev Taken : State → PlainMessage → Moment → Type 0
Taken s m new = (p : Progress) × Consumes m (begin s) p × View p new

-- Of a plain message.
abbrev plain_of : Message → PlainMessage → PlainMessage
plain_of (message.Plain m) other = m
plain_of (message.Unimplemented m) other = other

is_plain : (m k : PlainMessage) → message.Plain m ≡ message.Plain k → k ≡ m
is_plain m k e = sym (ap (λ (x : Message). plain_of x m) e)

pub not_plain : {A : Type 0} (m k : PlainMessage) → message.Plain m ≡ message.Unimplemented k → A
not_plain m k e = absurd (let bad : message.Plain m ≡ message.Unimplemented k = e in cc)

at_once : (s : State) (m k : PlainMessage) (new : Moment) → message.Plain m ≡ message.Plain k → new.clearing ≡ None → new.saying ≡ None → AreOurs new.telling → Consumes k (begin s) (progress new) → Taken s m new
at_once s m k new e c l t h = subst (λ (x : PlainMessage). Taken s x new) (is_plain m k e) (progress new, h, even new c l t NoMore)

-- A Return that comes: what was brought is what came.
module _ (s : State) (b : Back) (x : Question) where
  abbrev lost : Progress
  lost = with_state (begin s) (record (brought s b x) { questions = map.remove s.questions b.question })

  abbrev kept_back : Progress
  kept_back = with_state (begin s) (record (brought s b x) { questions = map.insert s.questions b.question (answered x b.waives b.said) })

  back : (m : PlainMessage) (p : Progress) (new : Moment) → Brings s (message.Plain m) b → map.get s.questions b.question ≡ Some x → x.returned ≡ None → ((r : Return) → b ≡ returning s r → ComesTo (begin s) r x x.finish p) → View p new → Taken s m new
  back m p new (ByReturn r e f) there unsaid c v =
      subst (λ (k : PlainMessage). Taken s k new) (is_plain m (plain.Return r) e) (p, (x, subst (λ (k : Back). map.get s.questions k.question ≡ Some x) f there, unsaid, c r f), v)
  back m p new (ByEchoedRoot q e f) there unsaid c v = not_plain m (plain.Bootstrap q) e
  back m p new (ByEchoedCall k e f) there unsaid c v = not_plain m (plain.Call k) e

lost_so : (s : State) (b : Back) (x : Question) (r : Return) → x.finish ≡ finishing.Sent → b ≡ returning s r → ComesTo (begin s) r x x.finish (lost s b x)
lost_so s b x r f e =
    subst (λ (k : Finishing). ComesTo (begin s) r x k (lost s b x)) (sym f)
    (ap (λ (k : Back). lost s k x) e ∙ ap (λ (u : State). with_state (begin s) (record u { questions = map.remove s.questions r.answer.0 })) (sym (brought_so s (returning s r) x)))

kept_so : (s : State) (b : Back) (x : Question) (r : Return) → (x.finish ≡ finishing.Owed) ⊎ (x.finish ≡ finishing.Waived) → b ≡ returning s r → ComesTo (begin s) r x x.finish (kept_back s b x)
kept_so s b x r f e = by f
  where
    same : kept_back s b x ≡ kept_returned (with_state (begin s) (came s r x)) r.answer.0 x (results_of s r.body)
    same =
        ap (λ (k : Back). kept_back s k x) e
        ∙ ap (λ (u : State). with_state (begin s) (record u { questions = map.insert u.questions r.answer.0 (record x { returned = Some (results_of s r.body) }) })) (sym (brought_so s (returning s r) x))

    by : (x.finish ≡ finishing.Owed) ⊎ (x.finish ≡ finishing.Waived) → ComesTo (begin s) r x x.finish (kept_back s b x)
    by (inl g) = subst (λ (k : Finishing). ComesTo (begin s) r x k (kept_back s b x)) (sym g) same
    by (inr g) = subst (λ (k : Finishing). ComesTo (begin s) r x k (kept_back s b x)) (sym g) same

-- At level 1 every message is looked at.
pub looked_at : (l : Level) (m : PlainMessage) → l ≡ One → is_foreign l m ≡ false
looked_at l m e = ap (λ (k : Level). is_foreign k m) e

taken : (s : State) (m : PlainMessage) (new : Moment) → s.level ≡ One → ConsumesFirst (beginning s) (message.Plain m) new → Taken s m new
taken s m new l (received.OpensRoot q o e f i h) = rw h (at_once s m (plain.Bootstrap q) _ e refl refl tt (o, f, i, refl))
taken s m new l (received.OpensCall c o e f i h) =
    rw h (at_once s m (plain.Call c) _ e refl refl tt (o, f, i, ap (λ (u : State). with_state (begin s) (opened u c.question.0 o (taken_of s c.descriptors))) (sym (all_alone s c.descriptors))))
taken s m new l (received.Loses b x e f i j h) = rw h (back s b x m (lost s b x) _ e f i (λ r. lost_so s b x r j) (even _ refl refl tt NoMore))
taken s m new l (received.ComesToCall b x c e f i j k h) = rw h (back s b x m (kept_back s b x) _ e f i (λ r. kept_so s b x r j) (even _ refl refl tt NoMore))
taken s m new l (received.ComesToRelay b x o e f i j k h) = rw h (back s b x m (kept_back s b x) _ e f i (λ r. kept_so s b x r j) (one _ refl refl tt (act.Fails o (value_of_results b.said) refl)))
taken s m new l (received.IsFinished k a e f i h) =
    rw h (at_once s m (plain.Finish k) _ e refl refl tt (a, f, i, ap (λ (u : State). with_state (begin s) (record u { answers = finished_map s.answers k.question.0 a a.returned })) (sym (obey_alone s k.release_result_caps (gave a.returned)))))
taken s m new l (received.IsResolved r e h) = rw h (at_once s m (plain.Resolve r) _ e refl refl tt (ap (with_state (begin s)) (sym (resolve_alone s r.promise.0 r.to))))
taken s m new l (received.IsReleased r e h) = rw h (at_once s m (plain.Release r) _ e refl refl tt refl)
taken s m new l (received.SendsBack t to x e f h) = rw h (at_once s m (plain.Disembargo (record { target = t; context = SenderLoopback x })) _ e refl refl tt (to, refl))
taken s m new l (received.Lifts t x b e f h) = rw h (at_once s m (plain.Disembargo (record { target = t; context = ReceiverLoopback x })) _ e refl refl tt (b, f, refl))
taken s m new l (received.SendsForeign p e f h) = absurd (let bad : true ≡ false = sym f ∙ looked_at s.level p l in cc)
taken s m new l (received.SendsOther n e h) = rw h (at_once s m (plain.Other n) _ e refl refl tt refl)
taken s m new l (received.TakesBack r e h) = not_plain m (plain.Resolve r) e
taken s m new l (received.Ignores r e h) = not_plain m (plain.Release r) e

pub handles : (s : State) (m : PlainMessage) (x : Effects) (t : State) → s.level ≡ One → fault_of s (message.Plain m) ≡ None → Handles s (message.Plain m) x t → (first : Progress) × Consumes m (begin s) first × IsActs first x t
handles s m x t l f h =
    let k = fine_received.handles s (message.Plain m) x t f h in
    let a = taken s m k.consumed l k.consumes in
    (a.0, a.1, at_last k.last x t k.ends (viewed k.last k.consumed k.acts a.2))
