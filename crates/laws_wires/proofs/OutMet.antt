-- What a vat knows of the other behind a step, and what it sent to it.
use Rattle.std.specs.FinMap as map
use Rattle.std.proofs.Common.{◌≡◌, ◌⊎◌, inl, inr, ℕ, nat_eq, Bool, true, false, List, [], ◌∷◌, Option, None, Some, IsSome, refl, sym, subst, ap, ◌∙◌}
use Rattle.finite_maps.specs.Tally.{Map}
use Rattle.finite_maps.proofs.Tested.{at_cut, at_put, equal}
use Rattle.rpc_msg.specs.declared.message.Disembargo.{Disembargo}
use Rattle.rpc_msg.specs.declared.message.DisembargoContext.{DisembargoContext}
use Rattle.rpc_msg.specs.declared.message.DisembargoContext.TheVariants.{SenderLoopback, ReceiverLoopback}
use Rattle.rpc_msg.specs.declared.message.Message.{Message}
use Rattle.rpc_msg.specs.declared.message.Message.TheVariants as message
use Rattle.rpc_msg.specs.declared.message.PlainMessage.{PlainMessage}
use Rattle.rpc_msg.specs.declared.message.PlainMessage.TheVariants as plain
use Rattle.rpc_msg.specs.declared.message.Return.{Return}
use Rattle.rpc_msg.specs.Messages.{descriptors_of_body}
use Rattle.rpc_journal.specs.Meaning.{History}
use Rattle.rpc_machine.specs.declared.entries.AnswerEntry.{AnswerEntry}
use Rattle.rpc_machine.specs.declared.entries.Finishing.{Finishing}
use Rattle.rpc_machine.specs.declared.entries.Finishing.TheVariants as finishing
use Rattle.rpc_machine.specs.declared.entries.Import.{Import}
use Rattle.rpc_machine.specs.declared.entries.Question.{Question}
use Rattle.rpc_machine.specs.declared.entries.Returned.{Returned}
use Rattle.rpc_machine.specs.declared.entries.Role.{Role}
use Rattle.rpc_machine.specs.declared.entries.Role.TheVariants as role
use Rattle.rpc_machine.specs.declared.command.Effects.{Effects}
use Rattle.rpc_machine.specs.State.{State}
use Rattle.rpc_machine.specs.Faults.{gave}
use Rattle.rpc_machine.specs.Messages.{results_of}
use Rattle.rpc_machine.specs.Progress.{Progress, begin, numbers}
use Rattle.rpc_machine.specs.Sweeping.{IsNotSent}
use Rattle.laws_acts.specs.Acts.{ComesTo, Consumes, TurnsBy, came}
use Rattle.laws_acts.specs.Sent.{Ids, sent_at_once}
use Rattle.laws_runs.specs.Questions.{Answerer, Out, hear_one}
use Rattle.laws_runs.specs.Questions as session
use Rattle.laws_runs.specs.Views.{Heard, IsReady, IsUseful, answerer_of, answered_by, hear, if_flag, only, out_of, rets}
use Rattle.laws_runs.proofs.Heard as heard
use Rattle.laws_runs.proofs.Same.{obeys, takes, takes_resolve}
use Rattle.laws_messages.specs.Imports.{KeepsImport}
use Rattle.laws_messages.specs.Mentions.{MentionsStand, NamingActs}
use Rattle.laws_messages.proofs.Keeping as keeping
use Rattle.laws_routes.specs.Midway.{Midway}
use Rattle.laws_routes.specs.Premises.{EachOpen}
use Rattle.laws_routes.specs.Received.{IsMet}
use Rattle.laws_routes.specs.Sayings.{Has, has_of, is_waiting, not_sent}
use Rattle.laws_meanings.specs.NodeLabels.{asked_label}
use Rattle.laws_wires.specs.Wires.{Session, Reader, ImportAgrees, QuestionAgrees, IsSession, LinkMeans, asked_at, export_label, has_past, past, reader, sessions_at}
use Rattle.laws_wires.specs.Sent.{AllSaySo}
use Rattle.laws_wires.specs.SentLinks.{AllRead}
use Rattle.laws_wires.specs.SentWires.{AreOfOne}
use Rattle.laws_wires.specs.SceneWires.{RolesKeepLabels}
use Rattle.laws_wires.specs.StepWires.{Around, ImportStays, QuestionStays, WasAsked}
use Rattle.laws_wires.specs.SceneOut.{AreAskedSo, CommandsMeetOut, IsAskedSo, MessagesMeetOut}
use Rattle.laws_wires.proofs.Behind.{past_off}
use Rattle.laws_wires.proofs.LinksRead.{links_say_so}
use Rattle.laws_wires.proofs.ReadActs.{Ready, all}
use Rattle.laws_wires.proofs.ReadSo.{Agrees, IfDirect, IsOwing, owing_before}
use Rattle.laws_routes.proofs.ReturnSent.{past_questions}

-- ---- Behind the first act of a message

-- A question is as it was, but for what its Return said.
abbrev LeftAt : Option Question → Option Question → Type 0
LeftAt o None = Unit {0}
LeftAt None (Some y) = ⊥
LeftAt (Some x) (Some y) = (y.role ≡ x.role) × (IsNotSent y.finish → IsNotSent x.finish)

left_same : (o : Option Question) → LeftAt o o
left_same None = tt
left_same (Some x) = (refl, λ n. n)

abbrev AllLeft : Map Question → Map Question → Type 0
AllLeft m n = (q : ℕ) → LeftAt (map.get m q) (map.get n q)

all_left : (m n : Map Question) → n ≡ m → AllLeft m n
all_left m n e q = subst (λ (w : Map Question). LeftAt (map.get m q) (map.get w q)) (sym e) (left_same (map.get m q))

-- Nothing was sent, or a Disembargo that turns back, or what is not understood.
data SaidFirst : List Message → Type 0 where
  Nothing : {ms : List Message} → ms ≡ [] → SaidFirst ms
  Turned : {ms : List Message} (x : Disembargo) → ms ≡ message.Plain (plain.Disembargo x) ∷ [] → SaidFirst ms
  Echoed : {ms : List Message} (p : PlainMessage) → ms ≡ message.Unimplemented p ∷ [] → SaidFirst ms

module _ (s : State) where
  abbrev First : Progress → Type 0
  First first = AllLeft s.questions first.state.questions × SaidFirst first.effects.sends

  came_to : (r : Return) (x : Question) (f : Finishing) (first : Progress) → map.get s.questions r.answer.0 ≡ Some x → ComesTo (begin s) r x f first → First first
  came_to r x f first there h = by f h
    where
      taken : (came s r x).questions ≡ s.questions
      taken = (let a = takes s (descriptors_of_body r.body) in let b = obeys _ r.release_param_caps (numbers x.given) in b.tables.questions ∙ a.questions)

      kept : Returned → AllLeft s.questions (map.insert (came s r x).questions r.answer.0 (record x { returned = Some (results_of s r.body) }))
      kept said =
          subst (λ (m : Map Question). AllLeft s.questions (map.insert m r.answer.0 (record x { returned = Some (results_of s r.body) }))) (sym taken)
          (at_put (λ j o. LeftAt (map.get s.questions j) o) s.questions r.answer.0 (record x { returned = Some (results_of s r.body) }) (subst (λ (o : Option Question). LeftAt o (Some (record x { returned = Some (results_of s r.body) }))) (sym there) (refl, λ n. n)) (λ j n. left_same (map.get s.questions j)))

      by : (f : Finishing) → ComesTo (begin s) r x f first → First first
      by finishing.Sent h = rw h (at_cut (λ j o. LeftAt (map.get s.questions j) o) s.questions r.answer.0 tt (λ j n. left_same (map.get s.questions j)), Nothing refl)
      by finishing.Owed h = rw h (kept (results_of s r.body), Nothing refl)
      by finishing.Waived h = rw h (kept (results_of s r.body), Nothing refl)

  turned : (c : DisembargoContext) (first : Progress) → TurnsBy (begin s) c first → First first
  turned (SenderLoopback y) first h = rw h.1 (all_left s.questions s.questions refl, Turned _ refl)
  turned (ReceiverLoopback y) first h = rw h.2 (all_left s.questions s.questions refl, Nothing refl)

  consumed : (x : PlainMessage) (first : Progress) → Consumes x (begin s) first → First first
  consumed (plain.Abort exception) first h = absurd h
  consumed (plain.Bootstrap q) first h = rw h.3 (all_left s.questions s.questions refl, Nothing refl)
  consumed (plain.Call c) first h = (let a = takes s c.descriptors in (all_left s.questions first.state.questions (ap (λ (p : Progress). p.state.questions) h.3 ∙ a.questions), Nothing (ap (λ (p : Progress). p.effects.sends) h.3)))
  consumed (plain.Return r) first h = came_to r h.0 (h.0).finish first h.1 h.3
  consumed (plain.Finish f) first h =
      (let a : AnswerEntry = h.0 in let b = obeys s f.release_result_caps (gave a.returned) in (all_left s.questions first.state.questions (ap (λ (p : Progress). p.state.questions) h.3 ∙ b.tables.questions), Nothing (ap (λ (p : Progress). p.effects.sends) h.3)))
  consumed (plain.Resolve r) first h = (let a = takes_resolve s r.promise.0 r.to in (all_left s.questions first.state.questions (ap (λ (p : Progress). p.state.questions) h ∙ a.questions), Nothing (ap (λ (p : Progress). p.effects.sends) h)))
  consumed (plain.Release r) first h = rw h (all_left s.questions s.questions refl, Nothing refl)
  consumed (plain.Disembargo d) first h = turned d.context first h
  consumed (plain.Other n) first h = rw h (all_left s.questions s.questions refl, Echoed _ refl)

-- ---- Answers that are owed

-- The message asks the question q.
abbrev Opens : ℕ → PlainMessage → Type 0
Opens q (plain.Abort exception) = ⊥
Opens q (plain.Bootstrap p) = nat_eq q p.0 ≡ true
Opens q (plain.Call c) = nat_eq q c.question.0 ≡ true
Opens q (plain.Return r) = ⊥
Opens q (plain.Finish f) = ⊥
Opens q (plain.Resolve r) = ⊥
Opens q (plain.Release r) = ⊥
Opens q (plain.Disembargo d) = ⊥
Opens q (plain.Other n) = ⊥

finished_owed : (a : Answerer Ids Ids) (l : Option Ids) → IsOwing (hear_one a (session.Fin l)) → IsOwing a
finished_owed session.NotOpen l h = absurd h
finished_owed (session.Working x) l h = tt
finished_owed (session.Unwanted x) l h = absurd h
finished_owed (session.Answered y) l h = absurd h
finished_owed session.Strange l h = absurd h

finished_or : (a : Answerer Ids Ids) (b : Bool) (l : Option Ids) → IsOwing (hear a (only b (session.Fin l))) → IsOwing a
finished_or a true l h = finished_owed a l h
finished_or a false l h = h

opened_or : (a : Answerer Ids Ids) (b : Bool) (m : Out Ids Ids) → IsOwing (hear a (only b m)) → IsOwing a ⊎ (b ≡ true)
opened_or a true m h = inr refl
opened_or a false m h = inl h

owed_or_opened : (q : ℕ) (x : PlainMessage) (a : Answerer Ids Ids) → IsOwing (hear a (out_of q x [])) → IsOwing a ⊎ Opens q x
owed_or_opened q (plain.Abort exception) a h = inl h
owed_or_opened q (plain.Bootstrap p) a h = opened_or a (nat_eq q p.0) _ h
owed_or_opened q (plain.Call c) a h = opened_or a (nat_eq q c.question.0) _ h
owed_or_opened q (plain.Return r) a h = inl h
owed_or_opened q (plain.Finish f) a h = inl (finished_or a (nat_eq q f.question.0) (if_flag f.release_result_caps []) h)
owed_or_opened q (plain.Resolve r) a h = inl h
owed_or_opened q (plain.Release r) a h = inl h
owed_or_opened q (plain.Disembargo d) a h = inl h
owed_or_opened q (plain.Other n) a h = inl h

unreturned : (a : AnswerEntry) → IsOwing (answered_by (numbers a.taken) a.returned a.finished) → a.returned ≡ None
unreturned a h = by a.returned a.finished h
  where
    by : (r : Option _) (f : Bool) → IsOwing (answered_by (numbers a.taken) r f) → r ≡ None
    by None f h = refl
    by (Some ids) true h = absurd h
    by (Some ids) false h = absurd h

module _ (s other : State) (out back : List Message) (mid : Midway s other out back) where
  -- Nothing on the way asks again what is owed.
  owed_once : (q : ℕ) → IsOwing (answerer_of (map.get s.answers q)) → EachOpen (λ k. nat_eq k q ≡ false) back
  owed_once q h = by (map.get s.answers q) refl h
    where
      by : (o : Option AnswerEntry) → map.get s.answers q ≡ o → IsOwing (answerer_of o) → EachOpen (λ k. nat_eq k q ≡ false) back
      by None e k = absurd k
      by (Some a) e k = (let w = mid.awaited q a e (unreturned a k) in w.0)

module _ (s other : State) (out rest : List Message) where
  opened_once : (q : ℕ) (x : PlainMessage) → IsMet s other out rest x → Opens q x → EachOpen (λ k. nat_eq k q ≡ false) rest
  opened_once q (plain.Abort exception) met h = absurd h
  opened_once q (plain.Bootstrap p) met h = subst (λ (j : ℕ). EachOpen (λ k. nat_eq k j ≡ false) rest) (sym (equal q p.0 h)) met
  opened_once q (plain.Call c) met h = subst (λ (j : ℕ). EachOpen (λ k. nat_eq k j ≡ false) rest) (sym (equal q c.question.0 h)) met
  opened_once q (plain.Return r) met h = absurd h
  opened_once q (plain.Finish f) met h = absurd h
  opened_once q (plain.Resolve r) met h = absurd h
  opened_once q (plain.Release r) met h = absurd h
  opened_once q (plain.Disembargo d) met h = absurd h
  opened_once q (plain.Other n) met h = absurd h

  abbrev Owes : Progress → Type 0
  Owes first = IsReady first.state × ((q : ℕ) → IsOwing (answerer_of (map.get first.state.answers q)) → EachOpen (λ k. nat_eq k q ≡ false) rest)

  module _ (x : PlainMessage) (first : Progress) (mid : Midway s other out (message.Plain x ∷ rest)) (met : IsMet s other out rest x) where
    owed_still : (q : ℕ) → IsOwing (answerer_of (map.get s.answers q)) → EachOpen (λ k. nat_eq k q ≡ false) rest
    owed_still q owing = (let once = owed_once s other out (message.Plain x ∷ rest) mid q owing in once.1)

    owed_then : (q : ℕ) → IsOwing (answerer_of (map.get s.answers q)) ⊎ Opens q x → EachOpen (λ k. nat_eq k q ≡ false) rest
    owed_then q (inl owing) = owed_still q owing
    owed_then q (inr opens) = opened_once q x met opens

    useful_owes : IsReady s → IsUseful x → Consumes x (begin s) first → Owes first
    useful_owes ready useful h =
        let did : Heard x (begin s) (sent_at_once (begin s) first x h) first = heard.consumes x (begin s) first ready useful h in
        let moves = did.did.moves in (
          moves.ready,
          λ q owing.
              let before = owing_before (answerer_of (map.get did.mid.answers q)) (answerer_of (map.get first.state.answers q)) (rets q (sent_at_once (begin s) first x h)) (moves.returns q) owing in
              owed_then q (owed_or_opened q x (answerer_of (map.get s.answers q)) (subst IsOwing (did.gets.hears q []) before)),
        )

  owes : (x : PlainMessage) (first : Progress) → Midway s other out (message.Plain x ∷ rest) → IsMet s other out rest x → IsReady s → Consumes x (begin s) first → Owes first
  owes (plain.Abort exception) first mid met ready h = absurd h
  owes (plain.Bootstrap q) first mid met ready h = useful_owes (plain.Bootstrap q) first mid met ready tt h
  owes (plain.Call c) first mid met ready h = useful_owes (plain.Call c) first mid met ready tt h
  owes (plain.Return r) first mid met ready h = useful_owes (plain.Return r) first mid met ready tt h
  owes (plain.Finish f) first mid met ready h = useful_owes (plain.Finish f) first mid met ready tt h
  owes (plain.Resolve r) first mid met ready h = useful_owes (plain.Resolve r) first mid met ready tt h
  owes (plain.Release r) first mid met ready h = useful_owes (plain.Release r) first mid met ready tt h
  owes (plain.Disembargo d) first mid met ready h = useful_owes (plain.Disembargo d) first mid met ready tt h
  owes (plain.Other n) first mid met ready h = rw h (ready, owed_still (plain.Other n) (begin s) mid met)

-- ---- Where the step begins

module _ (h : History) (w : Around) (out : List Message) (said : ℕ → Session) where
  abbrev by : Reader
  by = reader h w.v w.t w.m w.u w.z w.k

  abbrev has : Has
  has = has_past (has_of [] w.z.imports w.z.questions) out

  abbrev now : ℕ → Session
  now = past w.v (sessions_at w.k w.z.answers) out

  abbrev Begins : Progress → Type 0
  Begins d = Ready w.v w.m by said has now d

  -- A question that was there is of what its id stands for.
  agrees : RolesKeepLabels w.l w.m w.s → (q : ℕ) (o : Option Question) → map.get w.s.questions q ≡ o → QuestionAgrees w.l q (now q) o → Agrees (now q) (w.m.question q) o
  agrees keeps q None e k = tt
  agrees keeps q (Some x) e k = λ unsent. direct x.role (keeps q x e) (k unsent)
    where
      direct : (r : Role) → asked_label w.m q r ≡ asked_label w.l q r → IsSession w.l q (now q) r → IfDirect r (now q ≡ w.m.question q)
      direct (role.Direct c) e k = k ∙ sym e
      direct (role.Relay o) e k = tt

  all_agree : RolesKeepLabels w.l w.m w.s → ((q : ℕ) → QuestionAgrees w.l q (now q) (map.get w.s.questions q)) → (q : ℕ) → Agrees (now q) (w.m.question q) (map.get w.s.questions q)
  all_agree keeps lq q = agrees keeps q (map.get w.s.questions q) refl (lq q)

  agrees_left : (q : ℕ) (a b : Session) (o p : Option Question) → LeftAt o p → Agrees a b o → Agrees a b p
  agrees_left q a b o None k i = tt
  agrees_left q a b None (Some y) k i = absurd k
  agrees_left q a b (Some x) (Some y) k i = λ unsent. subst (λ (r : Role). IfDirect r (a ≡ b)) (sym k.0) (i (k.1 unsent))

  -- A question for whose answer nothing is asked again on the way is of what the answer is said to be of.
  of_one : (q : ℕ) (a : Session) (o : Option Question) → QuestionAgrees w.k q a o → is_waiting o ≡ true → AreOfOne a (asked_at w.k q o)
  of_one q a None k i = absurd (let bad : false ≡ true = i in cc)
  of_one q a (Some x) k i = session_of_one x.role (k (unsent x.finish i))
    where
      unsent : (f : Finishing) → not_sent f ≡ true → IsNotSent f
      unsent finishing.Owed i = tt
      unsent finishing.Sent i = absurd (let bad : false ≡ true = i in cc)
      unsent finishing.Waived i = tt

      session_of_one : (r : Role) → IsSession w.k q a r → AreOfOne a (asked_label w.k q r)
      session_of_one (role.Direct c) k = inl k
      session_of_one (role.Relay o) k = inr (k.0, k.2, k.1, k.4, k.3)

  aimed : (back : List Message) → ((q : ℕ) → QuestionAgrees w.k q (past w.u said back q) (map.get w.z.questions q)) → (q : ℕ) → EachOpen (λ k. nat_eq k q ≡ false) back → has.question q ≡ true → AreOfOne (said q) (by.question q)
  aimed back kq q off i =
      let a = subst (λ (f : ℕ → Bool). f q ≡ true) (past_questions (has_of [] w.z.imports w.z.questions) out) i in
      subst (λ (b : Session). AreOfOne b (by.question q)) (past_off w.u q said back off) (of_one q (past w.u said back q) (map.get w.z.questions q) (kq q) a)

  first_read : (ms : List Message) → SaidFirst ms → AllRead w.v w.m by said has now ms
  first_read ms (Nothing e) = subst (λ (ns : List Message). AllRead w.v w.m by said has now ns) (sym e) tt
  first_read ms (Turned x e) = subst (λ (ns : List Message). AllRead w.v w.m by said has now ns) (sym e) (tt, tt, tt)
  first_read ms (Echoed p e) = subst (λ (ns : List Message). AllRead w.v w.m by said has now ns) (sym e) tt

  first_past : (ms : List Message) → SaidFirst ms → past w.v now ms ≡ now
  first_past ms (Nothing e) = ap (λ (ns : List Message). past w.v now ns) e
  first_past ms (Turned x e) = ap (λ (ns : List Message). past w.v now ns) e
  first_past ms (Echoed p e) = ap (λ (ns : List Message). past w.v now ns) e

  import_read : ((e : ℕ) → w.m.import e ≡ w.l.import e) → (e : ℕ) (o : Option Import) → ImportAgrees (w.l.import e) (export_label h w.u w.k w.z.exports e) o → IsSome o → by.receiver e ≡ w.m.import e
  import_read same e None a i = absurd (let bad : false ≡ true = i in cc)
  import_read same e (Some y) a i = sym (same e ∙ a)

  -- ---- And where it ends

  question_stays : RolesKeepLabels w.l w.m w.s → (sends : List Message) (q : ℕ) (o : Option Question) → IsAskedSo w.v w.m w.s sends q o → QuestionStays w out sends q o
  question_stays keeps sends q None a = tt
  question_stays keeps sends q (Some x) a = λ unsent. stays a unsent
    where
      stays : IsAskedSo w.v w.m w.s sends q (Some x) → IsNotSent x.finish → WasAsked w sends q x ⊎ IsSession w.m q (past w.v now sends q) x.role
      stays (inl k) unsent =
          let was = k.1 in
          let y = was.0 in
          let due = was.3 unsent in
          inl (k.0, (y, was.1, due, was.2, subst (λ (r : Role). asked_label w.m q r ≡ asked_label w.l q r) was.2 (keeps q y was.1)))
      stays (inr f) unsent = inr (f now)

  sent_means : (first : Progress) (effects : Effects) → NamingActs first effects w.t → AreAskedSo w.v w.m w.s effects.sends w.t → Begins first → AllSaySo h w.v w.m w.t.exports w.t.promises said effects.sends
      → LinkMeans h w.v by has now effects.sends
  sent_means first effects a asked begins says =
      let is : effects.sends ≡ (a.0).effects.sends = ap (λ (y : Effects). y.sends) a.3 in
      let end = all w.v w.m by said has now w.s a.0 first a.1 a.2 (subst (λ (ms : List Message). AreAskedSo w.v w.m w.s ms (a.0).state) is (subst (AreAskedSo w.v w.m w.s effects.sends) a.4 asked)) begins in
      links_say_so h w.v w.m w.t.exports w.t.promises said by has now effects.sends (λ e. refl) (subst (λ (ms : List Message). AllRead w.v w.m by said has now ms) (sym is) end.read) says

-- ---- The laws

import_kept : (h : History) (w : Around) → ((e : ℕ) → w.m.import e ≡ w.l.import e) → (e : ℕ) (o p : Option Import) → map.get w.s.imports e ≡ o → KeepsImport o p → ImportStays h w e p
import_kept h w same e o None f k = tt
import_kept h w same e None (Some y) f k = absurd k
import_kept h w same e (Some x) (Some y) f k = inl (subst (λ (z : Option Import). IsSome z) (sym f) refl, same e)

import_meant : (h : History) (w : Around) → ((e : ℕ) → w.m.import e ≡ export_label h w.u w.k w.z.exports e) → (e : ℕ) (p : Option Import) → ImportStays h w e p
import_meant h w same e None = tt
import_meant h w same e (Some y) = inr (same e)

pub commands_meet_out : MentionsStand → CommandsMeetOut
commands_meet_out mentions h w out back said c g effects reached ready mid does keeps imports asked li lq kq says =
    let a = mentions.commands w.s c g effects w.t reached does in
    let begins : Begins h w out said (begin w.s) = record {
      imports = λ e n. import_read h w out said imports e (map.get w.s.imports e) (li e) n;
      asked = all_agree h w out said keeps lq;
      owed = λ q owing. aimed h w out said back kq q (owed_once w.s w.z out back mid q owing);
      read = tt;
      ready = ready;
    } in
    record {
      imports = λ e. import_kept h w imports e (map.get w.s.imports e) (map.get w.t.imports e) refl (subst (λ (t : State). KeepsImport (map.get w.s.imports e) (map.get t.imports e)) (sym a.4) (keeping.acts a.0 (begin w.s) a.1 e));
      questions = λ q. question_stays h w out said keeps effects.sends q (map.get w.t.questions q) (asked q);
      sent = sent_means h w out said (begin w.s) effects a asked begins says;
    }

pub messages_meet_out : MentionsStand → MessagesMeetOut
messages_meet_out mentions h w out rest said x effects reached ready mid level met fault handles keeps imports asked lq kq says =
    let a = mentions.messages w.s x effects w.t reached level fault handles in
    let first : Progress = a.0 in
    let so = consumed w.s x first a.1 in
    let owed = owes w.s w.z out rest x first mid met ready a.1 in
    let begins : Begins h w out said first = record {
      imports = λ e n. sym (imports e);
      asked = λ q. subst (λ (f : ℕ → Session). Agrees (f q) (w.m.question q) (map.get first.state.questions q)) (sym (first_past h w out said first.effects.sends so.1))
          (agrees_left h w out said q (now h w out said q) (w.m.question q) (map.get w.s.questions q) (map.get first.state.questions q) (so.0 q) (all_agree h w out said keeps lq q));
      owed = λ q owing. aimed h w out said rest kq q (owed.1 q owing);
      read = first_read h w out said first.effects.sends so.1;
      ready = owed.0;
    } in
    record {
      imports = λ e. import_meant h w imports e (map.get w.t.imports e);
      questions = λ q. question_stays h w out said keeps effects.sends q (map.get w.t.questions q) (asked q);
      sent = sent_means h w out said first effects a.3 asked begins says;
    }
