-- A received message does its first act: it may, and it is still so in the middle of the step.
use Rattle.std.specs.FinMap as map
use Rattle.std.proofs.Common.{◌≡◌, ℕ, Bool, not, is_some, nat_eq, true, false, List, [], ◌∷◌, ◌++◌, append_assoc, Option, None, Some, IsSome, refl, sym, ap, subst, ◌∙◌}
use Rattle.finite_maps.specs.Tally.{Map}
use Rattle.finite_maps.proofs.Gets.{get-insert_same}
use Rattle.finite_maps.proofs.Tested.{apart, at_cut, at_put, get_left}
use Rattle.rpc_msg.specs.declared.ids.EmbargoId.{EmbargoId}
use Rattle.rpc_msg.specs.declared.ids.ExportId.{ExportId}
use Rattle.rpc_msg.specs.declared.ids.ObjectId.{ObjectId}
use Rattle.rpc_msg.specs.declared.ids.QuestionId.{QuestionId}
use Rattle.rpc_msg.specs.declared.message.DisembargoContext.{DisembargoContext}
use Rattle.rpc_msg.specs.declared.message.DisembargoContext.TheVariants.{SenderLoopback, ReceiverLoopback}
use Rattle.rpc_msg.specs.declared.message.Finish.{Finish}
use Rattle.rpc_msg.specs.declared.message.Release.{Release}
use Rattle.rpc_msg.specs.declared.message.Message.{Message}
use Rattle.rpc_msg.specs.declared.message.Message.TheVariants as message
use Rattle.rpc_msg.specs.declared.message.PlainMessage.TheVariants as plain
use Rattle.rpc_msg.specs.declared.parts.Target.{Target}
use Rattle.rpc_msg.specs.declared.parts.Target.TheVariants.{ImportedCap, PromisedAnswer}
use Rattle.rpc_machine.specs.declared.calls.Caller.{Caller}
use Rattle.rpc_machine.specs.declared.calls.Caller.TheVariants as who
use Rattle.rpc_machine.specs.declared.calls.KeptOutcome.{KeptOutcome}
use Rattle.rpc_machine.specs.declared.command.Level.TheVariants.{One}
use Rattle.rpc_machine.specs.declared.entries.AnswerEntry.{AnswerEntry}
use Rattle.rpc_machine.specs.declared.entries.Embargo.{Embargo}
use Rattle.rpc_machine.specs.declared.entries.Reference.{Reference}
use Rattle.rpc_machine.specs.declared.node.Node.{Node}
use Rattle.rpc_machine.specs.State.{State}
use Rattle.rpc_machine.specs.Advancing.{wire_target}
use Rattle.rpc_machine.specs.Faults.{disembargo_fault, gave, target_fault, target_node}
use Rattle.rpc_machine.specs.Flags.{lower_by, lower_each, obey}
use Rattle.rpc_machine.specs.Lists.{update, updated}
use Rattle.rpc_machine.specs.Messages.{Bounces, Lifts, TakesBootstrap, TakesDisembargo, TakesFinish, TakesPlain, bootstrap_value, finished_map, opened, unembargoed}
use Rattle.rpc_machine.specs.Nodes.{settle, value_of}
use Rattle.rpc_machine.specs.Progress.{Progress, caps_of, export_ids, with_state}
use Rattle.rpc_journal.specs.History.{if_so, or_rest}
use Rattle.laws_steps.specs.Callers.{AnswersWith, IsOpenFor, peer}
use Rattle.laws_routes.specs.Laws.{lifted, with_back}
use Rattle.laws_routes.specs.MakingLaws.{EmbargoIsThere}
use Rattle.laws_routes.specs.Premises.{EachLoop, EachOpen, ExportsAreOwn, IsLastLoop, IsWireThere, LoopOf}
use Rattle.laws_routes.specs.QuietLaws.{MayClose, MayCloseIf, MayLower, lowering}
use Rattle.laws_routes.specs.Sides.{IsEmbargoOf}
use Rattle.laws_routes.specs.StepLaws.{MayDisembargo, MayFinish, MayLift}
use Rattle.laws_routes.specs.TakingLaws.{IsAnswered, MayBounce, MayTakeBootstrap}
use Rattle.laws_routes.specs.Ties.{Around}
use Rattle.laws_routes.specs.Midway.{AllAreHeld, HeldCallsAreHeld, IsAwaited, IsHeld, IsOutcomeOf, Midway, MidwayAt}
use Rattle.laws_routes.specs.Received.{EchoIsMet, IfAnswer, IfEmbargo, LoopIsMet}
use Rattle.laws_routes.proofs.AnswerCloses.{obeyed_answers}
use Rattle.laws_routes.proofs.ExportsLowered.{by_lowered, each_lowered}
use Rattle.laws_routes.proofs.FromMidway.{at_end, links_rest, may_keep}
use Rattle.laws_routes.proofs.MidwayRouted.{all_may_go}
use Rattle.laws_routes.proofs.MidwaySaid.{goes_out}
use Rattle.laws_routes.proofs.MidwaySettled.{may_settle}
use Rattle.laws_routes.proofs.MidwayTaken.{answer_held, export_held, held_too, lowered_still, off, peers}
use Rattle.laws_routes.proofs.MidwayKept.{calls_still}
use Rattle.laws_routes.proofs.MidwayTurned.{held, pairs_as, turned}

-- ---- Exports fall

pub obeyed_still : (s other : State) (out back : List Message) (flag : Bool) (ids : List ℕ) → Midway s other out back → MayLower (obey s flag ids) other out back → Midway (obey s flag ids) other out back
obeyed_still s other out back true ids h may = lowered_still s other out back (lower_each s.exports ids) h (each_lowered s.exports ids) may
obeyed_still s other out back false ids h may = h

pub release : (w : Around) (d : Progress) (x : Release) (rest : List Message) (new : Progress) → MidwayAt (with_back w (message.Plain (plain.Release x) ∷ rest)) d → d.state.level ≡ One → MayLower (lowering d.state x.export.0 x.count) w.other (w.out ++ d.effects.sends) rest
    → TakesPlain d (plain.Release x) new → MidwayAt (with_back w rest) new
release w d x rest new h level may a =
    let s = d.state in
    let out = w.out ++ d.effects.sends in
    let E = lower_by s.exports x.export.0 x.count in
    subst (MidwayAt (with_back w rest)) (sym a) (lowered_still s w.other out rest E (off s w.other out (plain.Release x) rest refl h level) (by_lowered s.exports x.export.0 x.count) may)

-- ---- A Finish

module _ (s other : State) (out rest : List Message) (h : Midway s other out rest) (q : ℕ) (a : AnswerEntry) (at : map.get s.answers q ≡ Some a) (closes : MayClose other rest q) where
  with_answers : (A : Map AnswerEntry) → ((k : ℕ) (b : AnswerEntry) → map.get A k ≡ Some b → IsOutcomeOf k (map.get s.outcomes b.outcome)) → ((o k : ℕ) → IsOpenFor k (map.get s.outcomes o) → AnswersWith o (map.get A k))
      → ((k : ℕ) (b : AnswerEntry) → map.get A k ≡ Some b → b.returned ≡ None → IsAwaited other rest k b.finished) → Midway (record s { answers = A }) other out rest
  with_answers A answers pending awaited =
      peers s s.imports s.exports A s.outcomes (λ e i. i) (λ o i. i) (λ o. refl) other out rest rest h h.resolved h.holds h.exports h.imported answers pending awaited h.returns h.answered h.met h.named h.echoed

  finished : (z : Option (List ExportId)) → a.returned ≡ z → Midway (record s { answers = finished_map s.answers q a z }) other out rest
  finished None e =
      let b : AnswerEntry = record a { finished = true } in
      with_answers (map.insert s.answers q b)
      (at_put (λ k o. (c : AnswerEntry) → o ≡ Some c → IsOutcomeOf k (map.get s.outcomes c.outcome)) s.answers q b (λ c f. (let g : b ≡ c = cc in subst (λ (c : AnswerEntry). IsOutcomeOf q (map.get s.outcomes c.outcome)) g (h.answers q a at))) (λ k n c f. h.answers k c f))
      (λ o. at_put (λ k z. IsOpenFor k (map.get s.outcomes o) → AnswersWith o z) s.answers q b (λ i. subst (AnswersWith o) at (h.pending o q i)) (λ k n i. h.pending o k i))
      (at_put (λ k o. (c : AnswerEntry) → o ≡ Some c → c.returned ≡ None → IsAwaited other rest k c.finished) s.answers q b
      (λ c f g. (let i : b ≡ c = cc in subst (λ (c : AnswerEntry). IsAwaited other rest q c.finished) i (let u = h.awaited q a at e in (u.0, λ j. closes)))) (λ k n c f g. h.awaited k c f g))
  finished (Some ids) e =
      with_answers (map.remove s.answers q)
      (at_cut (λ k o. (c : AnswerEntry) → o ≡ Some c → IsOutcomeOf k (map.get s.outcomes c.outcome)) s.answers q (λ c f. cc) (λ k n c f. h.answers k c f))
      (λ o. at_cut (λ k z. IsOpenFor k (map.get s.outcomes o) → AnswersWith o z) s.answers q (λ i. (let u : AnswersWith o (Some a) = subst (AnswersWith o) at (h.pending o q i) in let v : Some ids ≡ None = sym e ∙ u.1 in cc)) (λ k n i. h.pending o k i))
      (at_cut (λ k o. (c : AnswerEntry) → o ≡ Some c → c.returned ≡ None → IsAwaited other rest k c.finished) s.answers q (λ c f g. cc) (λ k n c f g. h.awaited k c f g))

closes_if : (other : State) (rest : List Message) (q : ℕ) (z : Option (List ExportId)) → MayClose other rest q → MayCloseIf other rest q z
closes_if other rest q None c = tt
closes_if other rest q (Some ids) c = c

lower_as : (s other : State) (out back : List Message) (A : Map AnswerEntry) → MayLower s other out back → MayLower (record s { answers = A }) other out back
lower_as s other out back A m = record { imported = m.imported; met = m.met; named = m.named; named_back = m.named_back }

module _ (w : Around) (d : Progress) (x : Finish) (rest : List Message) (new : Progress) (h : MidwayAt (with_back w (message.Plain (plain.Finish x) ∷ rest)) d) (level : (d.state).level ≡ One) where
  pub finish : (o : Option AnswerEntry) → map.get d.state.answers x.question.0 ≡ o → IfAnswer d.state w.other (w.out ++ d.effects.sends) rest x o → TakesFinish d x.question.0 x.release_result_caps o new
      → MayFinish (with_back w rest) d new x.question.0 o × MidwayAt (with_back w rest) new
  finish None at m a = absurd a
  finish (Some y) at m a =
      let s = d.state in
      let q = x.question.0 in
      let out = w.out ++ d.effects.sends in
      let u = obey s x.release_result_caps (gave y.returned) in
      let one = obeyed_still s w.other out rest x.release_result_caps (gave y.returned) (off s w.other out (plain.Finish x) rest refl h level) m.lowers in
      let same = obeyed_answers s x.release_result_caps (gave y.returned) in
      let A = finished_map s.answers q y y.returned in
      let two : Midway (record u { answers = finished_map u.answers q y y.returned }) w.other out rest = finished u w.other out rest one q y (ap (λ (m : Map AnswerEntry). map.get m q) same ∙ at) m.closes y.returned refl in
      let three : Midway (record u { answers = A }) w.other out rest = subst (λ (m : Map AnswerEntry). Midway (record u { answers = finished_map m q y y.returned }) w.other out rest) same two in (
        (subst (λ (z : Progress). MayLower z.state w.other out rest) (sym a) (lower_as u w.other out rest A m.lowers), closes_if w.other rest q y.returned m.closes),
        subst (MidwayAt (with_back w rest)) (sym a) three,
      )

-- ---- A Disembargo

loops_both : (P Q R S T U : ℕ → Type 0) (ms : List Message) → ((k : ℕ) → P k → R k → T k) → ((k : ℕ) → Q k → S k → U k) → EachLoop P Q ms → EachLoop R S ms → EachLoop T U ms
loops_both P Q R S T U [] f g h i = tt
loops_both P Q R S T U (message.Plain (plain.Abort exception) ∷ ms) f g h i = loops_both P Q R S T U ms f g h i
loops_both P Q R S T U (message.Plain (plain.Bootstrap q) ∷ ms) f g h i = loops_both P Q R S T U ms f g h i
loops_both P Q R S T U (message.Plain (plain.Call c) ∷ ms) f g h i = loops_both P Q R S T U ms f g h i
loops_both P Q R S T U (message.Plain (plain.Return r) ∷ ms) f g h i = loops_both P Q R S T U ms f g h i
loops_both P Q R S T U (message.Plain (plain.Finish x) ∷ ms) f g h i = loops_both P Q R S T U ms f g h i
loops_both P Q R S T U (message.Plain (plain.Resolve r) ∷ ms) f g h i = loops_both P Q R S T U ms f g h i
loops_both P Q R S T U (message.Plain (plain.Release r) ∷ ms) f g h i = loops_both P Q R S T U ms f g h i
loops_both P Q R S T U (message.Plain (plain.Disembargo x) ∷ ms) f g h i = (by x.context h.0 i.0, loops_both P Q R S T U ms f g h.1 i.1)
  where
    by : (c : DisembargoContext) → LoopOf P Q c → LoopOf R S c → LoopOf T U c
    by (SenderLoopback e) a b = f e.0 a b
    by (ReceiverLoopback e) a b = g e.0 a b
loops_both P Q R S T U (message.Plain (plain.Other n) ∷ ms) f g h i = loops_both P Q R S T U ms f g h i
loops_both P Q R S T U (message.Unimplemented x ∷ ms) f g h i = loops_both P Q R S T U ms f g h i

known_entry : {X : Type 0} (o : Option X) (n : ℕ) (rest : Option ℕ) → or_rest (if_so (not (is_some o)) n) rest ≡ None → IsSome o
known_entry None n rest e = cc
known_entry (Some x) n rest e = refl

pub target_answered : (s : State) (t : Target) (rest : Option ℕ) → or_rest (target_fault s t) rest ≡ None → IsAnswered s t
target_answered s (ImportedCap e) rest f = tt
target_answered s (PromisedAnswer q path) rest f = known_entry (map.get s.answers q.0) _ rest f

pub target_held : (s other : State) (out back : List Message) → Midway s other out back → (t : Target) → IsHeld s (target_node s t)
target_held s other out back h (ImportedCap e) = export_held s other out back h e.0
target_held s other out back h (PromisedAnswer q path) = answer_held s other out back h path q.0

module _ (w : Around) (d : Progress) (t : Target) (e : EmbargoId) (rest : List Message) (new : Progress) (h : Midway d.state w.other (w.out ++ d.effects.sends) rest) where
  abbrev s : State
  s = d.state

  abbrev out : List Message
  out = w.out ++ d.effects.sends

  bounce : (o : Option Target) → Bounces d e o new → MidwayAt (with_back w rest) new
  bounce None a = absurd a
  bounce (Some to) a =
      let m = message.Plain (plain.Disembargo (record { target = to; context = ReceiverLoopback e })) in
      subst (MidwayAt (with_back w rest)) (sym a)
      (subst (λ (ms : List Message). Midway s w.other ms rest) (append_assoc w.out d.effects.sends (m ∷ [])) (goes_out s w.other out rest m h (λ P. tt) (λ has. (tt, tt, tt)) (tt, tt)))

  goes_back : IsAnswered s t → Bounces d e (wire_target (settle s (target_node s t))) new → (MayBounce (with_back w rest) s t × IsWireThere s (settle s (target_node s t)) × ExportsAreOwn w.other) × MidwayAt (with_back w rest) new
  goes_back there a =
      let held = target_held s w.other out rest h t in
      let stands = at_end s w.other out rest h (target_node s t) held in
      let may : MayBounce (with_back w rest) s t = record { answered = there; own = λ k x f. (let b = h.exports k x f in b.0); rest = links_rest s w.other out rest h; there = held.0 } in
      ((may, stands.0.1, h.theirs), bounce (wire_target (settle s (target_node s t))) a)

  -- ---- It lifts an embargo

  module _ (b : Embargo) (at : map.get s.embargoes e.0 ≡ Some b) (m : EchoIsMet s out rest e.0 b) where
    abbrev B : Map Embargo
    B = map.remove s.embargoes e.0

    abbrev R : Map Reference
    R = update s.refs b.reference.0 unembargoed

    gone : (k : ℕ) (z : Embargo) → map.get B k ≡ Some z → map.get s.embargoes k ≡ Some z
    gone = at_cut (λ k o. (z : Embargo) → o ≡ Some z → map.get s.embargoes k ≡ Some z) s.embargoes e.0 (λ z f. cc) (λ k n z f. f)

    -- A reference has its embargo still, if it is another one.
    other_pair : (k : ℕ) (o : Option EmbargoId) → (b.reference.0 ≡ k → ⊥) → EmbargoIsThere s k o → EmbargoIsThere (record s { refs = R; embargoes = B }) k o
    other_pair k o away i = pairs_as s (record s { refs = R; embargoes = B }) k
        (at_cut (λ j z. IsEmbargoOf k (map.get s.embargoes j) → IsEmbargoOf k z) s.embargoes e.0 (λ j. absurd (away (subst (IsEmbargoOf k) at j))) (λ j n i. i))
        (at_cut (λ j z. IsEmbargoOf k z → IsEmbargoOf k (map.get s.embargoes j)) s.embargoes e.0 (λ j. absurd j) (λ j n i. i)) o i

    left : (k : ℕ) → IsSome (map.get s.embargoes k) → nat_eq k e.0 ≡ false → IsSome (map.get B k)
    left k i n = subst (λ (o : Option Embargo). IsSome o) (sym (get_left s.embargoes e.0 k n)) i

    heads : (o : Option Reference) → map.get s.refs b.reference.0 ≡ o → (k : ℕ) (x : Reference) → map.get (updated s.refs b.reference.0 unembargoed o) k ≡ Some x → IsHeld s x.head
    heads None f k x g = h.heads k x g
    heads (Some y) f k x g =
        at_put (λ k z. (x : Reference) → z ≡ Some x → IsHeld s x.head) s.refs b.reference.0 (unembargoed y) (λ x g. (let i : unembargoed y ≡ x = cc in subst (λ (x : Reference). IsHeld s x.head) i (h.heads b.reference.0 y f))) (λ k n x g. h.heads k x g) k x g

    pairs : (o : Option Reference) → map.get s.refs b.reference.0 ≡ o → (k : ℕ) (x : Reference) → map.get (updated s.refs b.reference.0 unembargoed o) k ≡ Some x → EmbargoIsThere (record s { refs = R; embargoes = B }) k x.embargo
    pairs None f k x g = other_pair k x.embargo (λ j. (let i : None ≡ Some x = sym f ∙ (ap (map.get s.refs) j ∙ g) in cc)) (h.paired k x g)
    pairs (Some y) f k x g =
        at_put (λ k z. (x : Reference) → z ≡ Some x → EmbargoIsThere (record s { refs = R; embargoes = B }) k x.embargo) s.refs b.reference.0 (unembargoed y)
        (λ x g. (let i : unembargoed y ≡ x = cc in subst (λ (x : Reference). EmbargoIsThere (record s { refs = R; embargoes = B }) b.reference.0 x.embargo) i tt))
        (λ k n x g. other_pair k x.embargo (λ j. apart k b.reference.0 n (sym j)) (h.paired k x g)) k x g

    is_lifted : Midway (lifted d e.0 b).state w.other out rest
    is_lifted =
        let last : IsLastLoop e.0 out rest = m.last in
        turned s R B s.unsettled s.next_promise w.other out rest h (heads (map.get s.refs b.reference.0) refl) (λ k z f. h.embargoes k z (gone k z f)) (λ k z f. h.keeps k z (gone k z f)) (pairs (map.get s.refs b.reference.0) refl)
        (loops_both _ _ _ _ _ _ out left (λ k i j. tt) h.sent last.sent) (loops_both _ _ _ _ _ _ rest (λ k i j. tt) left h.echoed last.echoed)

    lifts_all : (a : Lifts d e.0 (Some b) new) → MayLift (with_back w rest) d e.0 (Some b) new a × MidwayAt (with_back w rest) new
    lifts_all a =
        let held_now : (n : Node) → IsHeld s n → IsHeld (lifted d e.0 b).state n = held s R B s.unsettled s.next_promise in
        let goes = all_may_go (with_back w rest) (lifted d e.0 b) b.waiting b.node new is_lifted (held_now b.node (h.embargoes e.0 b at)) (calls_still s (lifted d e.0 b).state held_now b.waiting (h.keeps e.0 b at)) a in
        ((m.only, m.last, m.own, goes.0), goes.1)

  lifts : (o : Option Embargo) → map.get s.embargoes e.0 ≡ o → IfEmbargo s out rest e.0 o → (a : Lifts d e.0 o new) → MayLift (with_back w rest) d e.0 o new a × MidwayAt (with_back w rest) new
  lifts None at m a = absurd a
  lifts (Some b) at m a = lifts_all b at m a

pub disembargo : (w : Around) (d : Progress) (t : Target) (c : DisembargoContext) (rest : List Message) (new : Progress) → Midway d.state w.other (w.out ++ d.effects.sends) rest → disembargo_fault d.state t c ≡ None
    → LoopIsMet d.state (w.out ++ d.effects.sends) rest c → (a : TakesDisembargo d t c new) → MayDisembargo (with_back w rest) d t c new a × MidwayAt (with_back w rest) new
disembargo w d t (SenderLoopback e) rest new h fine m a = goes_back w d t e rest new h (target_answered d.state t _ fine) a
disembargo w d t (ReceiverLoopback e) rest new h fine m a = lifts w d t e rest new h (map.get d.state.embargoes e.0) refl m a

-- ---- An answer opens

abbrev number : Caller → ℕ
number (who.Application c) = c.0
number (who.Peer q) = q.0

pub opened_still : (s other : State) (out rest : List Message) (q o : ℕ) (ids : List ℕ) → Midway s other out rest → map.get s.answers q ≡ None → map.get s.outcomes o ≡ None → EachOpen (λ k. nat_eq k q ≡ false) rest
    → Midway (opened s q o ids) other out rest × ((n : Node) → IsHeld s n → IsHeld (opened s q o ids) n)
opened_still s other out rest q o ids h none free once = (
  peers s s.imports s.exports A O (λ e i. i) more (at_put (λ k z. value_of z ≡ value_of (map.get s.outcomes k)) s.outcomes o x (sym (ap value_of free)) (λ k n. refl)) other out rest rest h h.resolved
      (at_put (λ k z. (y : KeptOutcome) → z ≡ Some y → HeldCallsAreHeld s y.waiting) s.outcomes o x (λ y e. (let g : x ≡ y = cc in subst (λ (y : KeptOutcome). HeldCallsAreHeld s y.waiting) g tt)) (λ k n y e. h.holds k y e)) h.exports h.imported
      (at_put (λ k z. (b : AnswerEntry) → z ≡ Some b → IsOutcomeOf k (map.get O b.outcome)) s.answers q a (λ b f. (let g : a ≡ b = cc in subst (λ (b : AnswerEntry). IsOutcomeOf q (map.get O b.outcome)) g (subst (IsOutcomeOf q) (sym (get-insert_same s.outcomes o x)) refl)))
      (λ k n b f. is_of k b.outcome (h.answers k b f)))
      pending
      (at_put (λ k z. (b : AnswerEntry) → z ≡ Some b → b.returned ≡ None → IsAwaited other rest k b.finished) s.answers q a (λ b f e. (let g : a ≡ b = cc in subst (λ (b : AnswerEntry). IsAwaited other rest q b.finished) g (once, λ u. (let v : false ≡ true = u in cc)))) (λ k n b f e. h.awaited k b f e))
      h.returns h.answered h.met h.named h.echoed,
  held_too s s.imports s.exports A O (λ e i. i) more (at_put (λ k z. value_of z ≡ value_of (map.get s.outcomes k)) s.outcomes o x (sym (ap value_of free)) (λ k n. refl)),
)
  where
    x : KeptOutcome
    x = record { caller = who.Peer (record { 0 = q }); value = None; waiting = [] }

    a : AnswerEntry
    a = record { outcome = o; taken = export_ids ids; returned = None; finished = false }

    O : Map KeptOutcome
    O = map.insert s.outcomes o x

    A : Map AnswerEntry
    A = map.insert s.answers q a

    more : (k : ℕ) → IsSome (map.get s.outcomes k) → IsSome (map.get O k)
    more = at_put (λ k z. IsSome (map.get s.outcomes k) → IsSome z) s.outcomes o x (λ i. refl) (λ k n i. i)

    is_of : (k j : ℕ) → IsOutcomeOf k (map.get s.outcomes j) → IsOutcomeOf k (map.get O j)
    is_of k = at_put (λ j z. IsOutcomeOf k (map.get s.outcomes j) → IsOutcomeOf k z) s.outcomes o x (λ i. absurd (subst (IsOutcomeOf k) free i)) (λ j n i. i)

    asked_by : (k : ℕ) → peer q ≡ peer k → q ≡ k
    asked_by k e = ap number e

    old : (j k : ℕ) → AnswersWith j (map.get s.answers k) → AnswersWith j (map.get A k)
    old j = at_put (λ k z. AnswersWith j (map.get s.answers k) → AnswersWith j z) s.answers q a (λ i. absurd (subst (AnswersWith j) none i)) (λ k n i. i)

    pending : (j k : ℕ) → IsOpenFor k (map.get O j) → AnswersWith j (map.get A k)
    pending j k = at_put (λ j z. IsOpenFor k z → AnswersWith j (map.get A k)) s.outcomes o x
        (λ i. subst (λ (k : ℕ). AnswersWith o (map.get A k)) (asked_by k i.1) (subst (AnswersWith o) (sym (get-insert_same s.answers q a)) (refl, refl))) (λ j n i. old j k (h.pending j k i)) j

root_held : (s : State) (b : Option ObjectId) → AllAreHeld s (caps_of (bootstrap_value b))
root_held s None = tt
root_held s (Some o) = ((tt, tt), tt)

pub bootstrap : (w : Around) (d : Progress) (q : QuestionId) (rest : List Message) (new : Progress) → Midway d.state w.other (w.out ++ d.effects.sends) rest → d.state.level ≡ One → map.get d.state.answers q.0 ≡ None → EachOpen (λ k. nat_eq k q.0 ≡ false) rest
    → (a : TakesBootstrap d q.0 new) → MayTakeBootstrap (with_back w rest) d q new a × MidwayAt (with_back w rest) new
bootstrap w d q rest new h level none once a =
    let s = d.state in
    let o = a.0 in
    let u = opened s q.0 o [] in
    let out = w.out ++ d.effects.sends in
    let v = bootstrap_value s.bootstrap in
    let one = opened_still s w.other out rest q.0 o [] h none a.1 once in
    let settles = may_settle (with_back w rest) (with_state d u) o v (map.get u.outcomes o) new refl one.0 level (root_held u s.bootstrap) a.2 in
    (record { keeps = may_keep s w.other out rest h o a.1; settles = settles.0 }, settles.1)
