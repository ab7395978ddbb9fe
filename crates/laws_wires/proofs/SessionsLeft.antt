-- What the peer's questions stand for, behind a step.
use Rattle.std.specs.FinMap as map
use Rattle.std.proofs.Common.{◌≡◌, ◌⊎◌, inl, inr, ℕ, Bool, true, false, cond, nat_eq, List, ◌∷◌, Option, None, Some, refl, sym, subst, ap, ◌∙◌}
use Rattle.finite_maps.specs.Tally.{Map}
use Rattle.finite_maps.proofs.Tested.{equal, get_left, get_other, get_put, itself}
use Rattle.rpc_msg.specs.declared.ids.ExportId.{ExportId}
use Rattle.rpc_msg.specs.declared.ids.Vat.{Vat}
use Rattle.rpc_msg.specs.declared.message.Finish.{Finish}
use Rattle.rpc_msg.specs.declared.message.Message.{Message}
use Rattle.rpc_msg.specs.declared.message.Message.TheVariants as message
use Rattle.rpc_msg.specs.declared.message.PlainMessage.{PlainMessage}
use Rattle.rpc_msg.specs.declared.message.PlainMessage.TheVariants as plain
use Rattle.rpc_msg.specs.Messages.{descriptors_of}
use Rattle.rpc_journal.specs.Sources.{Asking}
use Rattle.rpc_machine.specs.declared.calls.KeptOutcome.{KeptOutcome}
use Rattle.rpc_machine.specs.declared.command.Level.{Level}
use Rattle.rpc_machine.specs.declared.command.Level.TheVariants.{One}
use Rattle.rpc_machine.specs.declared.entries.AnswerEntry.{AnswerEntry}
use Rattle.rpc_machine.specs.Faults.{is_foreign}
use Rattle.rpc_machine.specs.Messages.{finished_map}
use Rattle.rpc_machine.specs.State.{State}
use Rattle.laws_acts.specs.Moments.{Moment, beginning}
use Rattle.laws_acts.specs.MessageActs.{Back, Brings, ByReturn, ByEchoedRoot, ByEchoedCall, Consumes}
use Rattle.laws_acts.specs.MessageActs as taken
use Rattle.laws_runs.proofs.Same.{takes}
use Rattle.laws_steps.specs.NodesThere.{IsReached}
use Rattle.laws_routes.specs.Midway.{IsAwaited, IsOutcomeOf, Midway}
use Rattle.laws_routes.specs.QuietLaws.{MayClose}
use Rattle.laws_routes.specs.Received.{IfAnswer, IsMet}
use Rattle.laws_routes.proofs.MidwayTaken as midway
use Rattle.laws_meanings.specs.MessageMeanings.{AnswersOf, IsAnswerOf}
use Rattle.laws_meanings.specs.NodeLabels.{Labels}
use Rattle.laws_wires.specs.Wires.{Session, past_one, past_plain, session_of, sessions_at, with_session}
use Rattle.laws_wires.specs.StepWires.{Around, then}
use Rattle.laws_wires.specs.SceneSessions.{AnswerStays, AnswersStay, CommandsLeaveSessions, MessagesLeaveSessions, OutcomesKeepLabels}
use Rattle.laws_wires.proofs.AnswersLeft.{finished_answers_wait, started_same}

-- ---- One question id

labelled : (l m : Labels) (s : State) → OutcomesKeepLabels l m s → (o q : ℕ) → IsOutcomeOf q (map.get s.outcomes o) → m.outcome o ≡ l.outcome o
labelled l m s kept o q i = by (map.get s.outcomes o) refl i
  where
    by : (x : Option KeptOutcome) → map.get s.outcomes o ≡ x → IsOutcomeOf q x → m.outcome o ≡ l.outcome o
    by None e i = absurd i
    by (Some y) e i = kept o y e

-- Where its answer is as it was, it stays for that, or closes.
session_stays : (l m : Labels) (x y : Option AnswerEntry) (P : Type 0) → ((a : AnswerEntry) → x ≡ Some a → m.outcome a.outcome ≡ l.outcome a.outcome) → ((a : AnswerEntry) → x ≡ Some a → a.finished ≡ true → P) → AnswerStays x y
    → (session_of m.outcome y ≡ session_of l.outcome x) ⊎ P
session_stays l m None y P kept closes h = inl (ap (λ (o : Option AnswerEntry). session_of m.outcome o) h)
session_stays l m (Some a) None P kept closes h = inr (closes a refl h)
session_stays l m (Some a) (Some b) P kept closes h = inl (ap (λ o. m.outcome o) h.0 ∙ kept a refl)

-- One that opened is not finished.
session_opened : (m : Labels) (a : AnswerEntry) (y : Option AnswerEntry) (P : Type 0) → a.finished ≡ false → AnswerStays (Some a) y → (session_of m.outcome y ≡ m.outcome a.outcome) ⊎ P
session_opened m a None P e h = absurd (let bad : true ≡ false = sym h ∙ e in cc)
session_opened m a (Some b) P e h = inl (ap (λ o. m.outcome o) h.0)

-- ---- A step

module _ (w : Around) (reached : IsReached w.s) (kept : OutcomesKeepLabels w.l w.m w.s) (told : (q : ℕ) (a : AnswerEntry) → map.get w.s.answers q ≡ Some a → IsOutcomeOf q (map.get w.s.outcomes a.outcome)) (back : List Message)
    (awaited : (q : ℕ) (a : AnswerEntry) → map.get w.s.answers q ≡ Some a → a.returned ≡ None → IsAwaited w.z back q a.finished) where
  abbrev now : ℕ → Session
  now = sessions_at w.l w.s.answers

  may_close : (q : ℕ) (a : AnswerEntry) → map.get w.s.answers q ≡ Some a → a.finished ≡ true → MayClose w.z back q
  may_close q a e f = (let b = awaited q a e (finished_answers_wait w.s reached q a e f) in b.1 f)

  -- Where the first act leaves the answer as it was.
  left : (q : ℕ) → AnswerStays (map.get w.s.answers q) (map.get w.t.answers q) → (then w q ≡ now q) ⊎ MayClose w.z back q
  left q = session_stays w.l w.m (map.get w.s.answers q) (map.get w.t.answers q) (MayClose w.z back q) (λ a e. labelled w.l w.m w.s kept a.outcome q (told q a e)) (may_close q)

  left_at : (q : ℕ) (o : Option AnswerEntry) → o ≡ map.get w.s.answers q → AnswerStays o (map.get w.t.answers q) → (then w q ≡ now q) ⊎ MayClose w.z back q
  left_at q o e h = left q (subst (λ (x : Option AnswerEntry). AnswerStays x (map.get w.t.answers q)) e h)

  -- Where it opens that answer.
  module _ (d : State) (stay : AnswersStay d w.t) where
    abbrev Stands : (ℕ → Session) → ℕ → Type 0
    Stands said q = (then w q ≡ said q) ⊎ MayClose w.z back q

    asks : (k : ℕ) (a : AnswerEntry) (b : Vat × Asking) → d.answers ≡ map.insert w.s.answers k a → a.finished ≡ false → IsAnswerOf w.m.outcome d k b → (q : ℕ) → Stands (with_session now k (Some b)) q
    asks k a b e f is q = by (nat_eq q k) refl
      where
        at : (j : ℕ) → map.get d.answers j ≡ cond (nat_eq j k) (Some a) (map.get w.s.answers j)
        at j = ap (λ (m : Map AnswerEntry). map.get m j) e ∙ get_put w.s.answers k a j

        there : map.get d.answers k ≡ Some a
        there = at k ∙ ap (λ c. cond c (Some a) (map.get w.s.answers k)) (itself k)

        opened : (map.get d.answers k ≡ Some (is.0)) → w.m.outcome a.outcome ≡ Some b
        opened g = (let same : Some a ≡ Some is.0 = sym there ∙ g in let one : is.0 ≡ a = cc in subst (λ (y : AnswerEntry). w.m.outcome y.outcome ≡ Some b) one is.2)

        to : (z : Session) → w.m.outcome a.outcome ≡ z → (session_of w.m.outcome (map.get w.t.answers k) ≡ w.m.outcome a.outcome) ⊎ MayClose w.z back k → (then w k ≡ z) ⊎ MayClose w.z back k
        to z g (inl h) = inl (h ∙ g)
        to z g (inr h) = inr h

        at_itself : (then w k ≡ Some b) ⊎ MayClose w.z back k
        at_itself = to (Some b) (opened is.1) (session_opened w.m a (map.get w.t.answers k) (MayClose w.z back k) f (subst (λ (x : Option AnswerEntry). AnswerStays x (map.get w.t.answers k)) there (stay k)))

        by : (c : Bool) → nat_eq q k ≡ c → (then w q ≡ cond (nat_eq q k) (Some b) (now q)) ⊎ MayClose w.z back q
        by true g = subst (λ (c : Bool). (then w q ≡ cond c (Some b) (now q)) ⊎ MayClose w.z back q) (sym g) (subst (λ (j : ℕ). (then w j ≡ Some b) ⊎ MayClose w.z back j) (sym (equal q k g)) at_itself)
        by false g =
            subst (λ (c : Bool). (then w q ≡ cond c (Some b) (now q)) ⊎ MayClose w.z back q) (sym g)
            (left_at q (map.get d.answers q) (at q ∙ ap (λ c. cond c (Some a) (map.get w.s.answers q)) g) (stay q))

    finishes : (k : ℕ) (a : AnswerEntry) (r : Option (List ExportId)) → d.answers ≡ finished_map w.s.answers k a r → MayClose w.z back k → (q : ℕ) → Stands now q
    finishes k a r e may q = by (nat_eq q k) refl
      where
        other : (r : Option (List ExportId)) → nat_eq q k ≡ false → map.get (finished_map w.s.answers k a r) q ≡ map.get w.s.answers q
        other None g = get_other w.s.answers k (record a { finished = true }) q g
        other (Some ids) g = get_left w.s.answers k q g

        by : (c : Bool) → nat_eq q k ≡ c → Stands now q
        by true g = inr (subst (MayClose w.z back) (sym (equal q k g)) may)
        by false g = left_at q (map.get d.answers q) (ap (λ (m : Map AnswerEntry). map.get m q) e ∙ other r g) (stay q)

    leaves : d.answers ≡ w.s.answers → (q : ℕ) → Stands now q
    leaves e q = left_at q (map.get d.answers q) (ap (λ (m : Map AnswerEntry). map.get m q) e) (stay q)

pub commands_leave_sessions : CommandsLeaveSessions
commands_leave_sessions w out back c g d reached mid starts kept stay = leaves w reached kept mid.answers back mid.awaited d.state stay (started_same w.s c g d starts)

-- ---- A message

module _ (w : Around) (out rest : List Message) (x : PlainMessage) (d : Moment) (reached : IsReached w.s) (mid : Midway w.s w.z out (message.Plain x ∷ rest)) (level : w.s.level ≡ One) (kept : OutcomesKeepLabels w.l w.m w.s) (stay : AnswersStay d.state w.t) where
  abbrev All : (ℕ → Session) → Type 0
  All said = (q : ℕ) → (then w q ≡ said q) ⊎ MayClose w.z rest q

  abbrev StandsBehind : PlainMessage → Type 0
  StandsBehind y = All (past_one w.u (sessions_at w.l w.s.answers) (message.Plain y))

  awaited : (q : ℕ) (a : AnswerEntry) → map.get w.s.answers q ≡ Some a → a.returned ≡ None → IsAwaited w.z rest q a.finished
  awaited q a e f =
      let ds = descriptors_of (message.Plain x) in
      let then_mid = midway.taken w.s w.z out x rest mid level in
      then_mid.awaited q a (ap (λ (m : Map AnswerEntry). map.get m q) (takes w.s ds).answers ∙ e) f

  -- One that asks nothing.
  quiet : (y : PlainMessage) → message.Plain x ≡ message.Plain y → past_plain w.u (sessions_at w.l w.s.answers) y ≡ sessions_at w.l w.s.answers → d.state.answers ≡ w.s.answers → StandsBehind x
  quiet y e asks same = subst StandsBehind (let is : y ≡ x = cc in is) (subst All (sym asks) (leaves w reached kept mid.answers rest awaited d.state stay same))

  comes : (b : Back) → Brings w.s (message.Plain x) b → d.state.answers ≡ w.s.answers → StandsBehind x
  comes b (ByReturn r e f) same = quiet (plain.Return r) e refl same
  comes b (ByEchoedRoot q e f) same = absurd (let bad : message.Plain x ≡ message.Unimplemented (plain.Bootstrap q) = e in cc)
  comes b (ByEchoedCall c e f) same = absurd (let bad : message.Plain x ≡ message.Unimplemented (plain.Call c) = e in cc)

  asked : (y : PlainMessage) → message.Plain x ≡ message.Plain y → AnswersOf w.m.outcome w.u d.state (message.Plain x) → (AnswersOf w.m.outcome w.u d.state (message.Plain y) → StandsBehind y) → StandsBehind x
  asked y e i f = let is : x ≡ y = cc in subst StandsBehind (sym is) (f (subst (λ (z : PlainMessage). AnswersOf w.m.outcome w.u d.state (message.Plain z)) is i))

  finished : (f : Finish) (a : AnswerEntry) → message.Plain x ≡ message.Plain (plain.Finish f) → map.get w.s.answers f.question.0 ≡ Some a → IsMet w.s w.z out rest x → d.state.answers ≡ finished_map w.s.answers f.question.0 a a.returned → StandsBehind x
  finished f a e there met same =
      let is : x ≡ plain.Finish f = cc in
      let at : IfAnswer w.s w.z out rest f (map.get w.s.answers f.question.0) = subst (IsMet w.s w.z out rest) is met in
      let here = subst (IfAnswer w.s w.z out rest f) there at in
      subst StandsBehind (sym is) (finishes w reached kept mid.answers rest awaited d.state stay f.question.0 a a.returned same here.closes)

  foreign : (p : PlainMessage) → is_foreign w.s.level p ≡ true → ⊥
  foreign p e = let bad : false ≡ true = subst (λ (l : Level). is_foreign l p ≡ true) level e in cc

  behind : IsMet w.s w.z out rest x → AnswersOf w.m.outcome w.u d.state (message.Plain x) → Consumes (beginning w.s) (message.Plain x) d → StandsBehind x
  behind met i (taken.OpensRoot k o e f j h) =
      asked (plain.Bootstrap k) e i (λ is. asks w reached kept mid.answers rest awaited d.state stay k.0 _ _ (ap (λ (b : Moment). b.state.answers) h) refl is)
  behind met i (taken.OpensCall c o e f j h) =
      asked (plain.Call c) e i (λ is. asks w reached kept mid.answers rest awaited d.state stay c.question.0 _ _ (ap (λ (b : Moment). b.state.answers) h) refl is)
  behind met i (taken.Loses b y e f j k h) = comes b e (ap (λ (b : Moment). b.state.answers) h)
  behind met i (taken.ComesToCall b y c e f j k l h) = comes b e (ap (λ (b : Moment). b.state.answers) h)
  behind met i (taken.ComesToRelay b y o e f j k l h) = comes b e (ap (λ (b : Moment). b.state.answers) h)
  behind met i (taken.IsFinished f a e g j h) = finished f a e g met (ap (λ (b : Moment). b.state.answers) h)
  behind met i (taken.IsResolved r e h) = quiet (plain.Resolve r) e refl (ap (λ (b : Moment). b.state.answers) h)
  behind met i (taken.IsReleased r e h) = quiet (plain.Release r) e refl (ap (λ (b : Moment). b.state.answers) h)
  behind met i (taken.SendsBack t to k e f h) = quiet (plain.Disembargo _) e refl (ap (λ (b : Moment). b.state.answers) h)
  behind met i (taken.Lifts t k b e f h) = quiet (plain.Disembargo _) e refl (ap (λ (b : Moment). b.state.answers) h)
  behind met i (taken.SendsForeign p e f h) = absurd (foreign p f)
  behind met i (taken.SendsOther n e h) = quiet (plain.Other n) e refl (ap (λ (b : Moment). b.state.answers) h)
  behind met i (taken.TakesBack r e h) = absurd (let bad : message.Plain x ≡ message.Unimplemented (plain.Resolve r) = e in cc)
  behind met i (taken.Ignores r e h) = absurd (let bad : message.Plain x ≡ message.Unimplemented (plain.Release r) = e in cc)

pub messages_leave_sessions : MessagesLeaveSessions
messages_leave_sessions w out rest x d reached mid level met consumes kept answers stay = behind w out rest x d reached mid level kept stay met answers consumes
