-- What a received message does first is its first act, and then acts.
use Rattle.std.proofs.Common.{◌≡◌, ◌⊎◌, inl, inr, ℕ, Bool, true, false, is_some, not, nat_eq, length, List, [], ◌∷◌, Option, None, Some, refl, sym, ap, subst, ◌∙◌}
use Rattle.std.specs.FinMap as map
use Rattle.rpc_machine.specs.rpc_journal.specs.History.{if_so}
use Rattle.rpc_machine.specs.rpc_msg.specs.declared.ids.EmbargoId.{EmbargoId}
use Rattle.rpc_machine.specs.rpc_msg.specs.declared.parts.Target.{Target}
use Rattle.rpc_machine.specs.rpc_msg.specs.declared.message.Call.{Call}
use Rattle.rpc_machine.specs.rpc_msg.specs.declared.message.Return.{Return}
use Rattle.rpc_machine.specs.rpc_msg.specs.declared.message.Finish.{Finish}
use Rattle.rpc_machine.specs.rpc_msg.specs.declared.message.DisembargoContext.{DisembargoContext}
use Rattle.rpc_machine.specs.rpc_msg.specs.declared.message.DisembargoContext.TheVariants.{SenderLoopback, ReceiverLoopback}
use Rattle.rpc_machine.specs.rpc_msg.specs.declared.message.PlainMessage.{PlainMessage}
use Rattle.rpc_machine.specs.rpc_msg.specs.declared.message.PlainMessage.TheVariants as plain
use Rattle.rpc_machine.specs.rpc_msg.specs.declared.message.Message.{Message}
use Rattle.rpc_machine.specs.rpc_msg.specs.declared.message.Message.TheVariants as message
use Rattle.rpc_machine.specs.declared.command.Level.{Level}
use Rattle.rpc_machine.specs.declared.command.Level.TheVariants.{Zero, One}
use Rattle.rpc_machine.specs.declared.command.Effects.{Effects}
use Rattle.rpc_machine.specs.declared.calls.WaitingCall.{WaitingCall}
use Rattle.rpc_machine.specs.declared.calls.Caller.TheVariants as caller
use Rattle.rpc_machine.specs.declared.entries.Role.{Role}
use Rattle.rpc_machine.specs.declared.entries.Role.TheVariants as role
use Rattle.rpc_machine.specs.declared.entries.Finishing.{Finishing}
use Rattle.rpc_machine.specs.declared.entries.Finishing.TheVariants as finishing
use Rattle.rpc_machine.specs.declared.entries.Question.{Question}
use Rattle.rpc_machine.specs.declared.entries.AnswerEntry.{AnswerEntry}
use Rattle.rpc_machine.specs.declared.entries.Embargo.{Embargo}
use Rattle.rpc_machine.specs.State.{State}
use Rattle.rpc_machine.specs.Nodes.{settle}
use Rattle.rpc_machine.specs.Payloads.{caps_in}
use Rattle.rpc_machine.specs.Lists.{update}
use Rattle.rpc_machine.specs.Progress.{Progress, begin, with_state, numbers}
use Rattle.rpc_machine.specs.Descriptors.{take_at, take_all, taken_of}
use Rattle.rpc_machine.specs.Flags.{obey}
use Rattle.rpc_machine.specs.Numbers.{question_in_use, unknown_question, unknown_answer, bad_payload}
use Rattle.rpc_machine.specs.Faults.{target_node, gave, body_fault, flag_fault, target_fault, descriptors_fault, held_fault, is_foreign, plain_fault, unimplemented_fault, unless_foreign, return_fault, finish_fault, echoed_fault, fault_of}
use Rattle.rpc_machine.specs.Advancing.{wire_target}
use Rattle.rpc_machine.specs.Messages.{opened, received_request, bootstrap_value, value_of_results, waived, finished_map, unembargoed, ComesFor, ComesBack, TakesReturn, TakesEchoed, TakesFinish, Bounces, Lifts, TakesDisembargo, TakesPlain, TakesUnimplemented, TakesUnless, Takes}
use Rattle.rpc_machine.specs.Steps.{Handles}
use Rattle.laws_acts.specs.Moments.{Moment, at_rest, beginning, each_to}
use Rattle.laws_acts.specs.MessageActs.{Back, returning, echoed, Brings, ByReturn, ByEchoedRoot, ByEchoedCall, answered, brought, Consumes}
use Rattle.laws_acts.specs.MessageActs as act
use Rattle.laws_acts.specs.SmallActs.{Acts, NoMore, HandlesActs}
use Rattle.laws_acts.proofs.Alone.{all_alone, obey_alone, resolve_alone}
use Rattle.laws_acts.proofs.Pieces.{then, routes, routes_all, settles, tells_call}
use Rattle.laws_acts.proofs.Ends.{ended}
use Rattle.laws_acts.proofs.Checks.{first, not_so, none_there}

abbrev Got : State → Message → Progress → Type 0
Got s m new = (k : Moment) × Consumes (beginning s) m k × Acts (at_rest new) k

alone : {s : State} {m : Message} {new : Progress} → Consumes (beginning s) m (at_rest new) → Got s m new
alone {new} h = (at_rest new, h, NoMore)

-- ---- What comes back

nothing_taken : (s : State) (l : Level) → take_at l s [] ≡ s
nothing_taken s Zero = refl
nothing_taken s One = refl

obeyed : (s : State) (b : Bool) (ids : List ℕ) (t : State) → t ≡ record s { imports = t.imports } → obey t b ids ≡ record s { imports = t.imports; exports = (obey s b ids).exports }
obeyed s false ids t h = h
obeyed s true ids t h = ap (λ (u : State). obey u true ids) h

pub brought_so : (s : State) (b : Back) (x : Question) → obey (take_all s b.descriptors) b.flag (numbers x.given) ≡ brought s b x
brought_so s b x = obeyed s b.flag (numbers x.given) (take_all s b.descriptors) (all_alone s b.descriptors)

module _ (s : State) (m : Message) (b : Back) (x : Question) (new : Progress) (brings : Brings s m b) (there : map.get s.questions b.question ≡ Some x) (unsaid : x.returned ≡ None) where
  abbrev came : Progress
  came = with_state (begin s) (record (brought s b x) { questions = map.insert s.questions b.question (answered x b.waives b.said) })

  comes_for : (r : Role) → x.role ≡ r → (x.finish ≡ finishing.Owed) ⊎ (x.finish ≡ finishing.Waived) → ComesFor came r (value_of_results b.said) new → Got s m new
  comes_for (role.Relay o) e f h = alone (act.ComesToRelay b x o brings there unsaid f e (ap at_rest h))
  comes_for (role.Direct c) e f h =
      let v = value_of_results b.said in
      (record (at_rest came) { telling = (caller.Application c, v) ∷ [] }, act.ComesToCall b x c brings there unsaid f e refl, tells_call (at_rest came) c.0 v (map.get s.calls c.0) new refl h)

  lost : x.finish ≡ finishing.Sent → new ≡ with_state (begin s) (record (brought s b x) { questions = map.remove s.questions b.question }) → Got s m new
  lost f h = alone (act.Loses b x brings there unsaid f (ap at_rest h))

returns : (s : State) (r : Return) (o : Option Question) (new : Progress) → map.get s.questions r.answer.0 ≡ o → return_fault s r.release_param_caps r.body o ≡ None → TakesReturn (begin s) r o new → Got s (message.Plain (plain.Return r)) new
returns s r None new e f h = absurd h
returns s r (Some x) new e f h = by x.finish refl (subst (λ (u : State). ComesBack (with_state (begin s) u) r.answer.0 x (returning s r).said x.finish new) (brought_so s (returning s r) x) h)
  where
    unsaid : x.returned ≡ None
    unsaid = none_there x.returned unknown_question (first (if_so (is_some x.returned) unknown_question) (body_fault s r.body ∷ flag_fault s r.release_param_caps (numbers x.given) ∷ []) f)

    by : (k : Finishing) → x.finish ≡ k → ComesBack (with_state (begin s) (brought s (returning s r) x)) r.answer.0 x (returning s r).said k new → Got s (message.Plain (plain.Return r)) new
    by finishing.Sent g h = lost s _ (returning s r) x new (ByReturn r refl refl) e unsaid g h
    by finishing.Owed g h = comes_for s _ (returning s r) x new (ByReturn r refl refl) e unsaid x.role refl (inl g) h
    by finishing.Waived g h = comes_for s _ (returning s r) x new (ByReturn r refl refl) e unsaid x.role refl (inr g) h

comes_echoed : (s : State) (m : Message) (q : ℕ) (o : Option Question) (new : Progress) → Brings s m (echoed q) → map.get s.questions q ≡ o → echoed_fault s o ≡ None → TakesEchoed (begin s) q o new → Got s m new
comes_echoed s m q None new w e f h = absurd h
comes_echoed s m q (Some x) new w e f h = by x.finish refl (subst (λ (u : State). ComesBack (with_state (begin s) u) q (record x { finish = waived x.finish }) (echoed q).said (waived x.finish) new) same h)
  where
    same : obey s true (numbers x.given) ≡ brought s (echoed q) x
    same = ap (λ (u : State). obey u true (numbers x.given)) (sym (nothing_taken s s.level)) ∙ brought_so s (echoed q) x

    unsaid : x.returned ≡ None
    unsaid = none_there x.returned unknown_question (first (if_so (is_some x.returned) unknown_question) (flag_fault s true (numbers x.given) ∷ []) f)

    by : (k : Finishing) → x.finish ≡ k → ComesBack (with_state (begin s) (brought s (echoed q) x)) q (record x { finish = waived x.finish }) (echoed q).said (waived k) new → Got s m new
    by finishing.Sent g h = lost s m (echoed q) x new w e unsaid g h
    by finishing.Owed g h = comes_for s m (echoed q) x new w e unsaid x.role refl (inl g) h
    by finishing.Waived g h = comes_for s m (echoed q) x new w e unsaid x.role refl (inr g) h

-- ---- Finishes, Disembargos

takes_finish : (s : State) (x : Finish) (o : Option AnswerEntry) (new : Progress) → map.get s.answers x.question.0 ≡ o → finish_fault s x.release_result_caps o ≡ None → TakesFinish (begin s) x.question.0 x.release_result_caps o new → Got s (message.Plain (plain.Finish x)) new
takes_finish s x None new e f h = absurd h
takes_finish s x (Some a) new e f h =
    let m = finished_map s.answers x.question.0 a a.returned in
    alone (act.IsFinished x a refl e (not_so a.finished unknown_answer (first (if_so a.finished unknown_answer) (flag_fault s x.release_result_caps (gave a.returned) ∷ []) f)) (ap at_rest h ∙ ap (λ (u : State). record (beginning s) { state = record u { answers = m } }) (obey_alone s x.release_result_caps (gave a.returned))))

bounces : (s : State) (t : Target) (x : EmbargoId) (o : Option Target) (new : Progress) → wire_target (settle s (target_node s t)) ≡ o → Bounces (begin s) x o new → Got s (message.Plain (plain.Disembargo (record { target = t; context = SenderLoopback x }))) new
bounces s t x None new e h = absurd h
bounces s t x (Some to) new e h = alone (act.SendsBack t to x refl e (ap at_rest h))

lifts : (s : State) (t : Target) (x : EmbargoId) (o : Option Embargo) (new : Progress) → map.get s.embargoes x.0 ≡ o → Lifts (begin s) x.0 o new → Got s (message.Plain (plain.Disembargo (record { target = t; context = ReceiverLoopback x }))) new
lifts s t x None new e h = absurd h
lifts s t x (Some b) new e h =
    let mid = with_state (begin s) (record s { refs = update s.refs b.reference.0 unembargoed; embargoes = map.remove s.embargoes x.0 }) in
    (record (at_rest mid) { yet = each_to b.node b.waiting }, act.Lifts t x b refl e refl, routes_all (at_rest mid) b.waiting b.node new h)

disembargo : (s : State) (t : Target) (c : DisembargoContext) (new : Progress) → TakesDisembargo (begin s) t c new → Got s (message.Plain (plain.Disembargo (record { target = t; context = c }))) new
disembargo s t (SenderLoopback x) new h = bounces s t x _ new refl h
disembargo s t (ReceiverLoopback x) new h = lifts s t x _ new refl h

-- ---- All

-- The checks of a Call behind the first.
abbrev pub call_checks : State → Call → List (Option ℕ)
call_checks s c =
    target_fault s c.target ∷ if_so (not (nat_eq (caps_in c.payload) (length c.descriptors))) bad_payload ∷ descriptors_fault s c.descriptors ∷ held_fault s c.target ∷ []

takes_plain : (s : State) (m : PlainMessage) (new : Progress) → plain_fault s m ≡ None → TakesPlain (begin s) m new → Got s (message.Plain m) new
takes_plain s (plain.Abort x) new f h = absurd h
takes_plain s (plain.Bootstrap q) new f h =
    let v = bootstrap_value s.bootstrap in
    let now = with_state (begin s) (opened s q.0 h.0 []) in
    (record (at_rest now) { coming = (h.0, v) ∷ [] }, act.OpensRoot q h.0 refl (none_there (map.get s.answers q.0) question_in_use f) h.1 refl, settles now h.0 v new h.2)
takes_plain s (plain.Call c) new f h =
    let u : State = take_all s c.descriptors in
    let now = with_state (begin s) (opened u c.question.0 h.0 (taken_of s c.descriptors)) in
    let w : WaitingCall = record { request = received_request s c; outcome = h.0 } in (
      record (at_rest now) { yet = (w, target_node s c.target) ∷ [] },
      act.OpensCall c h.0 refl (none_there (map.get s.answers c.question.0) question_in_use (first (if_so (is_some (map.get s.answers c.question.0)) question_in_use) (call_checks s c) f)) h.1 (ap (λ (t : State). record (beginning s) { state = opened t c.question.0 h.0 (taken_of s c.descriptors); yet = (w, target_node s c.target) ∷ [] }) (all_alone s c.descriptors)),
      routes (at_rest now) w (target_node s c.target) [] new h.2,
    )
takes_plain s (plain.Return r) new f h = returns s r _ new refl f h
takes_plain s (plain.Finish x) new f h = takes_finish s x _ new refl f h
takes_plain s (plain.Resolve r) new f h = alone (act.IsResolved r refl (ap at_rest h ∙ ap (λ (u : State). record (beginning s) { state = u }) (resolve_alone s r.promise.0 r.to)))
takes_plain s (plain.Release r) new f h = alone (act.IsReleased r refl (ap at_rest h))
takes_plain s (plain.Disembargo x) new f h = disembargo s x.target x.context new h
takes_plain s (plain.Other n) new f h = alone (act.SendsOther n refl (ap at_rest h))

takes_unimplemented : (s : State) (m : PlainMessage) (new : Progress) → unimplemented_fault s m ≡ None → TakesUnimplemented (begin s) m new → Got s (message.Unimplemented m) new
takes_unimplemented s (plain.Abort x) new f h = absurd h
takes_unimplemented s (plain.Bootstrap q) new f h = comes_echoed s _ q.0 _ new (ByEchoedRoot q refl refl) refl f h
takes_unimplemented s (plain.Call c) new f h = comes_echoed s _ c.question.0 _ new (ByEchoedCall c refl refl) refl f h
takes_unimplemented s (plain.Return r) new f h = absurd h
takes_unimplemented s (plain.Finish x) new f h = absurd h
takes_unimplemented s (plain.Resolve r) new f h = alone (act.TakesBack r refl (ap at_rest h))
takes_unimplemented s (plain.Release r) new f h = alone (act.Ignores r refl (ap at_rest h))
takes_unimplemented s (plain.Disembargo x) new f h = absurd h
takes_unimplemented s (plain.Other n) new f h = absurd h

unless : (b : Bool) (s : State) (m : PlainMessage) (new : Progress) → is_foreign s.level m ≡ b → unless_foreign b (plain_fault s m) ≡ None → TakesUnless b (begin s) m new → Got s (message.Plain m) new
unless true s m new e f h = alone (act.SendsForeign m refl e (ap at_rest h))
unless false s m new e f h = takes_plain s m new f h

got : (s : State) (m : Message) (new : Progress) → fault_of s m ≡ None → Takes (begin s) m new → Got s m new
got s (message.Plain m) new f h = unless (is_foreign s.level m) s m new refl f h
got s (message.Unimplemented m) new f h = takes_unimplemented s m new f h

pub handles : (s : State) (m : Message) (x : Effects) (t : State) → fault_of s m ≡ None → Handles s m x t → HandlesActs s m x t
handles s m x t f h =
    let a = got s m h.taken f h.takes in
    let b = ended h.taken x t h.ends in
    record { consumed = a.0; last = b.0; consumes = a.1; acts = then a.0 (at_rest h.taken) b.0 a.2 b.1; ends = b.2 }
