-- How a vat and a message look to the session of a question id.
use Rattle.std.specs.Prelude.{◌≡◌, ℕ, Bool, true, false, nat_eq, Option, None, Some, List, [], ◌∷◌, ◌++◌}
use Rattle.std.specs.FinMap as map
use Rattle.rpc_msg.specs.declared.message.PlainMessage.{PlainMessage}
use Rattle.rpc_msg.specs.declared.message.PlainMessage.TheVariants as plain
use Rattle.rpc_msg.specs.Messages.{given, descriptors_of_body}
use Rattle.rpc_msg.specs.declared.ids.ExportId.{ExportId}
use Rattle.rpc_machine.specs.declared.command.Level.TheVariants.{One}
use Rattle.rpc_machine.specs.declared.entries.Finishing.{Finishing}
use Rattle.rpc_machine.specs.declared.entries.Finishing.TheVariants as finishing
use Rattle.rpc_machine.specs.declared.entries.Returned.{Returned}
use Rattle.rpc_machine.specs.declared.entries.Question.{Question}
use Rattle.rpc_machine.specs.declared.entries.AnswerEntry.{AnswerEntry}
use Rattle.rpc_machine.specs.State.{State}
use Rattle.rpc_machine.specs.Progress.{Progress, with_state, numbers}
use Rattle.rpc_machine.specs.Sweeping.{got_of}
use Rattle.laws_steps.specs.Callers.{IsOpenFor, AnswersWith}
use Rattle.laws_acts.specs.Sent.{Ids, Noted, messages}
use Rattle.laws_runs.specs.Questions as session
use Rattle.laws_runs.specs.Questions.{Asker, Answerer, Out, Ret, Sends, Returns, hear_one, tell_one}

-- ---- Entries

abbrev pub asked_by : Ids → Finishing → Option Returned → Asker Ids Ids
asked_by gave finishing.Owed None = session.Asked gave
asked_by gave finishing.Owed (Some said) = session.Back (got_of (Some said))
asked_by gave finishing.Sent None = session.Early gave
asked_by gave finishing.Sent (Some said) = session.Odd
asked_by gave finishing.Waived said = session.Odd

abbrev pub asker_of : Option Question → Asker Ids Ids
asker_of None = session.NotAsked
asker_of (Some x) = asked_by (numbers x.given) x.finish x.returned

abbrev pub answered_by : Ids → Option (List ExportId) → Bool → Answerer Ids Ids
answered_by got None false = session.Working got
answered_by got None true = session.Unwanted got
answered_by got (Some gave) false = session.Answered (numbers gave)
answered_by got (Some gave) true = session.Strange

abbrev pub answerer_of : Option AnswerEntry → Answerer Ids Ids
answerer_of None = session.NotOpen
answerer_of (Some a) = answered_by (numbers a.taken) a.returned a.finished

-- ---- Messages

abbrev pub if_flag : Bool → Ids → Option Ids
if_flag true ids = Some ids
if_flag false ids = None

abbrev pub only : {A : Type 0} → Bool → A → List A
only true a = a ∷ []
only false a = []

abbrev pub out_of : ℕ → PlainMessage → Ids → List (Out Ids Ids)
out_of q (plain.Abort exception) l = []
out_of q (plain.Bootstrap p) l = only (nat_eq q p.0) (session.Open [])
out_of q (plain.Call c) l = only (nat_eq q c.question.0) (session.Open (given c.descriptors))
out_of q (plain.Return r) l = []
out_of q (plain.Finish f) l = only (nat_eq q f.question.0) (session.Fin (if_flag f.release_result_caps l))
out_of q (plain.Resolve r) l = []
out_of q (plain.Release r) l = []
out_of q (plain.Disembargo d) l = []
out_of q (plain.Other n) l = []

abbrev pub ret_of : ℕ → PlainMessage → Ids → List (Ret Ids Ids)
ret_of q (plain.Abort exception) l = []
ret_of q (plain.Bootstrap p) l = []
ret_of q (plain.Call c) l = []
ret_of q (plain.Return r) l = only (nat_eq q r.answer.0) (session.Return (given (descriptors_of_body r.body)) (if_flag r.release_param_caps l))
ret_of q (plain.Finish f) l = []
ret_of q (plain.Resolve r) l = []
ret_of q (plain.Release r) l = []
ret_of q (plain.Disembargo d) l = []
ret_of q (plain.Other n) l = []

abbrev pub outs : ℕ → List Noted → List (Out Ids Ids)
outs q [] = []
outs q (n ∷ ns) = out_of q n.message n.lets ++ outs q ns

abbrev pub rets : ℕ → List Noted → List (Ret Ids Ids)
rets q [] = []
rets q (n ∷ ns) = ret_of q n.message n.lets ++ rets q ns

-- Neither an Abort nor a message that isn't understood.
abbrev pub IsUseful : PlainMessage → Type 0
IsUseful (plain.Abort exception) = ⊥
IsUseful (plain.Bootstrap p) = Unit {0}
IsUseful (plain.Call c) = Unit {0}
IsUseful (plain.Return r) = Unit {0}
IsUseful (plain.Finish f) = Unit {0}
IsUseful (plain.Resolve r) = Unit {0}
IsUseful (plain.Release r) = Unit {0}
IsUseful (plain.Disembargo d) = Unit {0}
IsUseful (plain.Other n) = ⊥

abbrev pub AreUseful : List Noted → Type 0
AreUseful [] = Unit {0}
AreUseful (n ∷ ns) = IsUseful n.message × AreUseful ns

-- ---- What a vat does

-- By itself, one thing after the other.
abbrev pub SendsAll : Asker Ids Ids → List (Out Ids Ids) → Asker Ids Ids → Type 0
SendsAll v [] w = v ≡ w
SendsAll v (m ∷ ms) w = (u : Asker Ids Ids) × Sends v m u × SendsAll u ms w

abbrev pub ReturnsAll : Answerer Ids Ids → List (Ret Ids Ids) → Answerer Ids Ids → Type 0
ReturnsAll v [] w = v ≡ w
ReturnsAll v (m ∷ ms) w = (u : Answerer Ids Ids) × Returns v m u × ReturnsAll u ms w

-- By messages.
abbrev pub tell : Asker Ids Ids → List (Ret Ids Ids) → Asker Ids Ids
tell v [] = v
tell v (m ∷ ms) = tell (tell_one v m) ms

abbrev pub hear : Answerer Ids Ids → List (Out Ids Ids) → Answerer Ids Ids
hear v [] = v
hear v (m ∷ ms) = hear (hear_one v m) ms

-- ---- What a vat keeps by itself

abbrev pub IsNotWaived : Finishing → Type 0
IsNotWaived finishing.Owed = Unit {0}
IsNotWaived finishing.Sent = Unit {0}
IsNotWaived finishing.Waived = ⊥

-- It did not come back as not understood.
abbrev pub IsUsual : Option Question → Type 0
IsUsual None = Unit {0}
IsUsual (Some x) = IsNotWaived x.finish

-- It is of level 1; no question of it came back as not understood; and each outcome that is not known and of which the
-- peer is told has its answer, which was not returned.
pub record IsReady (s : State) : Type 0 where
  pub level : s.level ≡ One
  pub usual : (q : ℕ) → IsUsual (map.get s.questions q)
  pub opens : (o q : ℕ) → IsOpenFor q (map.get s.outcomes o) → AnswersWith o (map.get s.answers q)

-- From one state to the other these messages are sent, and each question and answer does what its session allows.
pub record Moves (s : State) (sent : List Noted) (t : State) : Type 0 where
  pub useful : AreUseful sent
  pub ready : IsReady t
  pub asks : (q : ℕ) → SendsAll (asker_of (map.get s.questions q)) (outs q sent) (asker_of (map.get t.questions q))
  pub returns : (q : ℕ) → ReturnsAll (answerer_of (map.get s.answers q)) (rets q sent) (answerer_of (map.get t.answers q))

-- A message does to the entries what its session says, whatever its flag would let go.
pub record Gets (s : State) (m : PlainMessage) (t : State) : Type 0 where
  pub tells : (q : ℕ) (l : Ids) → asker_of (map.get t.questions q) ≡ tell (asker_of (map.get s.questions q)) (ret_of q m l)
  pub hears : (q : ℕ) (l : Ids) → answerer_of (map.get t.answers q) ≡ hear (answerer_of (map.get s.answers q)) (out_of q m l)

-- The acts in between, with what they send.
pub record Did (d : Progress) (sent : List Noted) (new : Progress) : Type 0 where
  pub said : new.effects.sends ≡ d.effects.sends ++ messages sent
  pub moves : Moves d.state sent new.state

-- What a message does at once, and what it sends thereby.
pub record Heard (m : PlainMessage) (d : Progress) (sent : List Noted) (first : Progress) : Type 0 where
  pub mid : State
  pub gets : Gets d.state m mid
  pub did : Did (with_state d mid) sent first
