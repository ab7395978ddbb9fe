-- What the first act of a step in a scene sends means what it should.
use Rattle.std.proofs.Common.{◌≡◌, ◌⊎◌, ℕ, nat_eq, length, Bool, true, false, not, cond, is_some, Option, None, Some, [], ◌∷◌, ◌++◌, refl, sym, ap, ◌∙◌, subst}
use Rattle.std.specs.FinMap as map
use Rattle.finite_maps.proofs.Gets.{get-insert_same}
use Rattle.finite_maps.proofs.Tested.{at_put, equal}
use Rattle.rpc_msg.specs.declared.ids.Vat.{Vat}
use Rattle.rpc_msg.specs.declared.ids.ObjectId.{ObjectId}
use Rattle.rpc_msg.specs.declared.message.Message.{Message}
use Rattle.rpc_msg.specs.declared.message.Message.TheVariants as message
use Rattle.rpc_msg.specs.declared.message.PlainMessage.{PlainMessage}
use Rattle.rpc_msg.specs.declared.message.PlainMessage.TheVariants as plain
use Rattle.rpc_msg.specs.Vats.{other_vat}
use Rattle.rpc_journal.specs.declared.entry.JournalEntry.TheVariants as entry
use Rattle.rpc_journal.specs.History.{if_so}
use Rattle.rpc_journal.specs.Sources.{Asking, OfBootstrap, OfCall}
use Rattle.rpc_journal.specs.Meaning.{History}
use Rattle.rpc_machine.specs.declared.calls.Caller.{Caller}
use Rattle.rpc_machine.specs.declared.calls.Caller.TheVariants as caller
use Rattle.rpc_machine.specs.declared.calls.KeptOutcome.{KeptOutcome}
use Rattle.rpc_machine.specs.declared.calls.Value.{Value}
use Rattle.rpc_machine.specs.declared.command.Level.{Level}
use Rattle.rpc_machine.specs.declared.command.Level.TheVariants.{One}
use Rattle.rpc_machine.specs.declared.entries.AnswerEntry.{AnswerEntry}
use Rattle.rpc_machine.specs.State.{State}
use Rattle.rpc_machine.specs.Claims.{history}
use Rattle.rpc_machine.specs.Faults.{descriptors_fault, fault_of, held_fault, is_foreign, plain_fault, target_fault, unless_foreign}
use Rattle.rpc_machine.specs.Journal.{granted_entries}
use Rattle.rpc_machine.specs.Numbers.{bad_payload, question_in_use}
use Rattle.rpc_machine.specs.Payloads.{caps_in}
use Rattle.rpc_machine.specs.World.{core}
use Rattle.laws_acts.specs.Moments.{Moment, beginning}
use Rattle.laws_acts.specs.MessageActs.{Consumes}
use Rattle.laws_acts.specs.MessageActs as heard
use Rattle.laws_acts.proofs.Checks.{first}
use Rattle.laws_messages.proofs.About.{levels}
use Rattle.laws_routes.specs.Sayings.{IsSilentPlain}
use Rattle.laws_runs.specs.SceneSessions.{CountsOfScenes}
use Rattle.laws_steps.specs.Callers.{AnswersWith, CallersAreServed, IsOpenFor}
use Rattle.laws_meanings.specs.CommandMeanings.{OpensNothing, IsWritten, IsWrittenOpen}
use Rattle.laws_meanings.specs.FitCores.{CoresAreFit}
use Rattle.laws_meanings.specs.MessageMeanings.{AnswersOf, IsAnswerOf, OutcomesKept}
use Rattle.laws_meanings.specs.NodeLabels.{Labels, MomentMeans}
use Rattle.laws_meanings.specs.WrittenCommands.{CommandsAreWritten}
use Rattle.laws_meanings.proofs.OpensMean.{this_one}
use Rattle.laws_wires.specs.FirstSent.{CommandsSaySo, MessagesSaySo}
use Rattle.laws_wires.specs.Sent.{CallerSo, IsAwaited, SentMean}
use Rattle.laws_wires.specs.Wires.{Session, past_one, session_of, sessions_at, with_session}
use Rattle.laws_sound.specs.OldestHeard.{exports_mean}
use Rattle.laws_sound.specs.StepsInScenes.{FirstActsSend, FirstCommandsSend, FirstMessagesSend}
use Rattle.laws_sound.proofs.Begins.{written_either}
use Rattle.laws_meanings.proofs.StepsMean.{opens_or_not}

-- ---- Outcomes for which the peer waits

with_answer : (l : Labels) (o : ℕ) (y : Option AnswerEntry) → AnswersWith o y → session_of l.outcome y ≡ l.outcome o
with_answer l o None i = absurd i
with_answer l o (Some a) i = ap l.outcome i.0

module _ (h : History) (v : Vat) (l m : Labels) (s : State) (said : ℕ → Session) (served : CallersAreServed s) (kept : OutcomesKept l s m.outcome)
    (same : (q o : ℕ) → AnswersWith o (map.get s.answers q) → said q ≡ sessions_at l s.answers q) where
  awaited : (o : ℕ) (x : KeptOutcome) → map.get s.outcomes o ≡ Some x → (c : Caller) (w : Option Value) → x.caller ≡ c → x.value ≡ w → IsAwaited h v m said o c w
  awaited o x e (caller.Application c) w f g = tt
  awaited o x e (caller.Peer q) (Some y) f g = tt
  awaited o x e (caller.Peer q) None f g =
      let a = served.outcomes o q.0 (subst (IsOpenFor q.0) (sym e) (g, f)) in
      same q.0 o a ∙ with_answer l o (map.get s.answers q.0) a ∙ sym (kept o x e)

  callers_so : (o : ℕ) (x : Option KeptOutcome) → map.get s.outcomes o ≡ x → CallerSo h v m said o x
  callers_so o None e = tt
  callers_so o (Some x) e = awaited o x e x.caller x.value refl refl

-- ---- Messages

not_used : (s : State) (q n : ℕ) → if_so (map.contains_key s.answers q) n ≡ None → map.get s.answers q ≡ None
not_used s q n e = by (map.get s.answers q) e
  where
    by : (o : Option AnswerEntry) → if_so (is_some o) n ≡ None → o ≡ None
    by None f = refl
    by (Some a) f = cc

past_same : (s : State) (now : ℕ → Session) (k : ℕ) (z : Session) → map.get s.answers k ≡ None → (q o : ℕ) → AnswersWith o (map.get s.answers q) → with_session now k z q ≡ now q
past_same s now k z free q o i = by (nat_eq q k) refl
  where
    by : (b : Bool) → nat_eq q k ≡ b → cond b z (now q) ≡ now q
    by true e = absurd (subst (AnswersWith o) (ap (map.get s.answers) (equal q k e) ∙ free) i)
    by false e = refl

past_still : (u : Vat) (s : State) (now : ℕ → Session) (y : Message) → s.level ≡ One → fault_of s y ≡ None → (q o : ℕ) → AnswersWith o (map.get s.answers q) → past_one u now y q ≡ now q
past_still u s now (message.Plain (plain.Bootstrap k)) level f q o i =
    let g : plain_fault s (plain.Bootstrap k) ≡ None = subst (λ (n : Level). unless_foreign (is_foreign n (plain.Bootstrap k)) (plain_fault s (plain.Bootstrap k)) ≡ None) level f in
    past_same s now k.0 _ (not_used s k.0 question_in_use g) q o i
past_still u s now (message.Plain (plain.Call c)) level f q o i =
    let g : plain_fault s (plain.Call c) ≡ None = subst (λ (n : Level). unless_foreign (is_foreign n (plain.Call c)) (plain_fault s (plain.Call c)) ≡ None) level f in
    past_same s now c.question.0 _ (not_used s c.question.0 question_in_use (first (if_so (map.contains_key s.answers c.question.0) question_in_use) (target_fault s c.target ∷ if_so (not (nat_eq (caps_in c.payload) (length c.descriptors))) bad_payload ∷ descriptors_fault s c.descriptors ∷ held_fault s c.target ∷ []) g)) q o i
past_still u s now (message.Plain (plain.Abort x)) level f q o i = refl
past_still u s now (message.Plain (plain.Return x)) level f q o i = refl
past_still u s now (message.Plain (plain.Finish x)) level f q o i = refl
past_still u s now (message.Plain (plain.Resolve x)) level f q o i = refl
past_still u s now (message.Plain (plain.Release x)) level f q o i = refl
past_still u s now (message.Plain (plain.Disembargo x)) level f q o i = refl
past_still u s now (message.Plain (plain.Other x)) level f q o i = refl
past_still u s now (message.Unimplemented x) level f q o i = refl

not_foreign : (k : Level) → k ≡ One → (p : PlainMessage) → is_foreign k p ≡ true → IsSilentPlain p
not_foreign k e p f = absurd (let g : is_foreign One p ≡ true = subst (λ (n : Level). is_foreign n p ≡ true) e f in (let bad : false ≡ true = g in cc))

module _ (h : History) (v u : Vat) (l m : Labels) (s : State) (y : Message) (served : CallersAreServed s) (kept : OutcomesKept l s m.outcome) (level : s.level ≡ One) (free : fault_of s y ≡ None) where
  abbrev said : ℕ → Session
  said = past_one u (sessions_at l s.answers) y

  old : (o : ℕ) → CallerSo h v m said o (map.get s.outcomes o)
  old o = callers_so h v l m s said served kept (past_still u s (sessions_at l s.answers) y level free) o (map.get s.outcomes o) refl

  opened_as : (t : State) (q k : ℕ) (z : AnswerEntry) (a : Vat × Asking) → t.answers ≡ map.insert s.answers q z → z.outcome ≡ k → IsAnswerOf m.outcome t q a → m.outcome k ≡ Some a
  opened_as t q k z a e f i =
      let g : Some i.0 ≡ Some z = sym i.1 ∙ ap (λ (n : map.FinMap _ AnswerEntry). map.get n q) e ∙ get-insert_same s.answers q z in
      let j : i.0 ≡ z = cc in
      ap m.outcome (sym f ∙ ap (λ (n : AnswerEntry). n.outcome) (sym j)) ∙ i.2

  all_so : (new : Moment) → AnswersOf m.outcome u new.state y → Consumes (beginning s) y new → (o : ℕ) → CallerSo h v m said o (map.get new.state.outcomes o)
  all_so new i (heard.OpensRoot q k e f j w) =
      let a = subst (λ (n : Message). AnswersOf m.outcome u new.state n) e i in
      let z = opened_as new.state q.0 k _ (u, OfBootstrap) (ap (λ (n : Moment). n.state.answers) w) refl a in
      rw w (at_put (λ n o. CallerSo h v m said n o) s.outcomes k _ (ap (λ (n : Message). past_one u (sessions_at l s.answers) n q.0) e ∙ this_one q.0 _ _ ∙ sym z) (λ n g. old n))
  all_so new i (heard.OpensCall c k e f j w) =
      let a = subst (λ (n : Message). AnswersOf m.outcome u new.state n) e i in
      let z = opened_as new.state c.question.0 k _ (u, OfCall c.stamp) (ap (λ (n : Moment). n.state.answers) w) refl a in
      rw w (at_put (λ n o. CallerSo h v m said n o) s.outcomes k _ (ap (λ (n : Message). past_one u (sessions_at l s.answers) n c.question.0) e ∙ this_one c.question.0 _ _ ∙ sym z) (λ n g. old n))
  all_so new i (heard.Loses y x e f j k w) = rw w old
  all_so new i (heard.ComesToCall y x c e f j k l w) = rw w old
  all_so new i (heard.ComesToRelay y x o e f j k l w) = rw w old
  all_so new i (heard.IsFinished x z e f j w) = rw w old
  all_so new i (heard.IsResolved x e w) = rw w old
  all_so new i (heard.IsReleased x e w) = rw w old
  all_so new i (heard.SendsBack t to x e f w) = rw w old
  all_so new i (heard.Lifts t x y e f w) = rw w old
  all_so new i (heard.SendsForeign p e f w) = rw w old
  all_so new i (heard.SendsOther k e w) = rw w old
  all_so new i (heard.TakesBack x e w) = rw w old
  all_so new i (heard.Ignores x e w) = rw w old

-- ---- In scenes

module _ (say : CommandsSaySo) (messages : MessagesSaySo) (fits : CoresAreFit) (written : CommandsAreWritten) (counts : CountsOfScenes) where
  pub commands_send : (a b : Option ObjectId) → FirstCommandsSend a b
  commands_send a b x l v c g told t m d scene i over r k starts kept imports moment =
      let s = core x.world v in
      let h = history a b (x.journal ++ granted_entries x.journal v c g) in
      let fit = fits a b x scene v in
      let w = written a b x v c g told t scene over r k in
      let either = written_either h v s c (opens_or_not c) w.0 w.1 in
      let said = sessions_at (l v) s.answers in
      subst (λ (u : Vat). SentMean h u m said d) fit.vat
      (say h m said s c g d (subst (λ (u : Vat). (OpensNothing c × IsWritten h u s c) ⊎ IsWrittenOpen h u s c) (sym fit.vat) either) starts (subst (λ (u : Vat). MomentMeans h u m d) (sym fit.vat) moment)
      (λ o. callers_so h s.vat (l v) m s said fit.whole.callers kept.outcomes (λ q n f. refl) o (map.get s.outcomes o) refl)).2

  pub messages_send : (a b : Option ObjectId) → FirstMessagesSend a b
  messages_send a b x l v y ms os d scene i inbox free consumes kept answers moment =
      let s = core x.world v in
      let fit = fits a b x scene v in
      let level = levels x.world (counts.sessions a b x scene) v in
      let n : Labels = record (l v) { import = exports_mean (history a b x.journal) x.world l (other_vat v); outcome = os } in
      let h = history a b (x.journal ++ entry.Got v ∷ []) in
      messages h v n (past_one (other_vat v) (sessions_at (l v) s.answers) y) s y d consumes (λ p e f. not_foreign s.level level p f)
      (all_so h v (other_vat v) (l v) n s y fit.whole.callers kept level free d answers consumes)

pub first_acts_send : CommandsSaySo → MessagesSaySo → CoresAreFit → CommandsAreWritten → CountsOfScenes → FirstActsSend
first_acts_send say messages fits written counts a b = (commands_send say messages fits written counts a b, messages_send say messages fits written counts a b)
