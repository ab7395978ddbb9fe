-- While a question is a Bootstrap's and has not returned, no Call with its id is on its way to the other vat, no outcome
-- there is open for it, and each Return to it on its way says that vat's bootstrap object; so it is in each scene.
use Rattle.std.proofs.Common.{◌≡◌, ◌⊎◌, inl, inr, ℕ, Bool, true, false, nat_eq, Option, None, Some, List, [], ◌∷◌, ◌++◌, append_assoc, refl, sym, subst, ◌∙◌, arith}
use Rattle.std.specs.Ordering.{nat_cmp}
use Rattle.std.specs.FinMap as map
use Rattle.rpc_msg.specs.declared.ids.Vat.{Vat}
use Rattle.rpc_msg.specs.declared.ids.Vat.TheVariants.{A, B}
use Rattle.rpc_msg.specs.declared.ids.CallId.{CallId}
use Rattle.rpc_msg.specs.declared.ids.ObjectId.{ObjectId}
use Rattle.rpc_msg.specs.declared.message.Message.{Message}
use Rattle.rpc_msg.specs.declared.message.Message.TheVariants as message
use Rattle.rpc_msg.specs.declared.message.PlainMessage.{PlainMessage}
use Rattle.rpc_msg.specs.declared.message.PlainMessage.TheVariants as plain
use Rattle.rpc_msg.specs.declared.message.Return.{Return}
use Rattle.rpc_msg.specs.Vats.{other_vat}
use Rattle.rpc_journal.specs.declared.entry.JournalEntry.{JournalEntry}
use Rattle.rpc_journal.specs.declared.entry.JournalEntry.TheVariants as entry
use Rattle.rpc_journal.specs.Sources.{OfBootstrap, OfCall, asking, asking_one}
use Rattle.laws_runs.proofs.Reading.{still_first}
use Rattle.rpc_msg.specs.declared.ids.ExportId.{ExportId}
use Rattle.rpc_msg.specs.Messages.{given, descriptors_of_body}
use Rattle.rpc_journal.specs.Meaning.{root}
use Rattle.rpc_machine.specs.declared.command.Command.TheVariants as command
use Rattle.rpc_machine.specs.declared.command.CallCommand.{CallCommand}
use Rattle.rpc_machine.specs.declared.command.Granted.TheVariants as granted
use Rattle.rpc_machine.specs.declared.command.Effects.{Effects}
use Rattle.rpc_machine.specs.declared.command.Level.TheVariants.{One}
use Rattle.rpc_machine.specs.declared.entries.AnswerEntry.{AnswerEntry}
use Rattle.rpc_machine.specs.declared.entries.Question.{Question}
use Rattle.rpc_machine.specs.State.{State, start}
use Rattle.rpc_machine.specs.Messages.{results_of, value_of_results}
use Rattle.rpc_machine.specs.Progress.{numbers}
use Rattle.rpc_machine.specs.World.{core, inbox, put_inbox, after}
use Rattle.rpc_machine.specs.Journal.{effect_entries, granted_entries}
use Rattle.rpc_machine.specs.Claims.{history, object_number}
use Rattle.laws_steps.specs.Callers.{AnswersWith}
use Rattle.laws_acts.specs.FirstActs as first
use Rattle.laws_acts.specs.Sent.{Ids, Noted, messages}
use Rattle.laws_runs.specs.Scenes as scenes
use Rattle.laws_runs.specs.Scenes.{Scene, IsScene, begins}
use Rattle.laws_runs.specs.Questions as session
use Rattle.laws_runs.specs.Questions.{Asker, Answerer, Out, Ret, Row}
use Rattle.laws_runs.specs.Views.{asker_of, answered_by, answerer_of, if_flag, only, out_of, ret_of, outs, rets, IsReady}
use Rattle.laws_runs.specs.Worlds.{AreRows, Stand}
use Rattle.laws_runs.specs.Between.{HoldsIn}
use Rattle.laws_runs.specs.Agreed.{IsMet}
use Rattle.laws_runs.specs.SceneSessions.{InScenes, OldestAreMet}
use Rattle.laws_meanings.specs.Bootstraps.{IsCall, WasAsked, RoleAsked, QuestionAsked, SaysRoot, RootsReturn, RootsAreReturned, RootsAreLeft, BootstrapsEnd}
use Rattle.laws_meanings.proofs.Numbers.{QuestionsAsked, still_call}
use Rattle.laws_meanings.proofs.Asking.{asks_now, numbers_asked}
use Rattle.laws_meanings.proofs.Walked.{in_each}
use Rattle.laws_meanings.proofs.Hosting as hosting
use Rattle.laws_meanings.proofs.Rooting as rooting
use Rattle.laws_meanings.proofs.Rooting.{Quiet, IsOther, BodyRoot, IsRoot, AreRoots, roots-append, Begins}
use Rattle.laws_meanings.proofs.Opening as opening
use Rattle.laws_meanings.proofs.Opening.{IsOpenAt, AreOther, other-append, Asks, WasThere}

-- ---- A session whose question is not asked

abbrev NoneOpens : List (Out Ids Ids) → Type 0
NoneOpens [] = Unit {0}
NoneOpens (session.Open x ∷ ms) = ⊥
NoneOpens (session.Fin l ∷ ms) = NoneOpens ms

abbrev NotWorking : Answerer Ids Ids → Type 0
NotWorking session.NotOpen = Unit {0}
NotWorking (session.Working x) = ⊥
NotWorking (session.Unwanted x) = ⊥
NotWorking (session.Answered y) = Unit {0}
NotWorking session.Strange = Unit {0}

abbrev IsIdle : List (Out Ids Ids) → Answerer Ids Ids → List (Ret Ids Ids) → Type 0
IsIdle out u back = NoneOpens out × NotWorking u × (back ≡ [])

idle : (out : List (Out Ids Ids)) (u : Answerer Ids Ids) (back : List (Ret Ids Ids)) → Row session.NotAsked out u back → IsIdle out u back
idle out u back session.Idle = (tt, tt, refl)
idle out u back (session.Closing y l j) = (tt, tt, refl)

module _ (q : ℕ) where
  apart : (k : ℕ) → nat_eq q k ≡ false → ¬ (k ≡ q)
  apart k e f = let bad : ⊥ = grind (arith, e, f) in bad

  first_other : (m : PlainMessage) (l : Ids) (back : List (Out Ids Ids)) (X : Type 0) → (NoneOpens back → X) → NoneOpens (out_of q m l ++ back) → IsOther q (message.Plain m) × X
  first_other (plain.Abort x) l back X f k = (tt, f k)
  first_other (plain.Bootstrap p) l back X f k = (tt, by (nat_eq q p.0) k)
    where
      by : (b : Bool) → NoneOpens (only b (session.Open []) ++ back) → X
      by true g = absurd g
      by false g = f g
  first_other (plain.Call c) l back X f k = by (nat_eq q c.question.0) refl k
    where
      by : (b : Bool) → nat_eq q c.question.0 ≡ b → NoneOpens (only b (session.Open (given c.descriptors)) ++ back) → (¬ (c.question.0 ≡ q)) × X
      by true e g = absurd g
      by false e g = (apart c.question.0 e, f g)
  first_other (plain.Return r) l back X f k = (tt, f k)
  first_other (plain.Finish x) l back X f k = (tt, by (nat_eq q x.question.0) k)
    where
      by : (b : Bool) → NoneOpens (only b (session.Fin (if_flag x.release_result_caps l)) ++ back) → X
      by true g = f g
      by false g = f g
  first_other (plain.Resolve r) l back X f k = (tt, f k)
  first_other (plain.Release r) l back X f k = (tt, f k)
  first_other (plain.Disembargo d) l back X f k = (tt, f k)
  first_other (plain.Other n) l back X f k = (tt, f k)

  others : (ns : List Noted) → NoneOpens (outs q ns) → AreOther q (messages ns)
  others [] h = tt
  others (n ∷ ns) h = first_other n.message n.lets (outs q ns) (AreOther q (messages ns)) (λ g. others ns g) h

  module _ (b : Option ObjectId) where
    no_return : (m : PlainMessage) (l : Ids) (back : List (Ret Ids Ids)) (X : Type 0) → (back ≡ [] → X) → ret_of q m l ++ back ≡ [] → IsRoot q b (message.Plain m) × X
    no_return (plain.Abort x) l back X f k = (tt, f k)
    no_return (plain.Bootstrap p) l back X f k = (tt, f k)
    no_return (plain.Call c) l back X f k = (tt, f k)
    no_return (plain.Return r) l back X f k = by (nat_eq q r.answer.0) refl k
      where
        by : (y : Bool) → nat_eq q r.answer.0 ≡ y → only y (session.Return (given (descriptors_of_body r.body)) (if_flag r.release_param_caps l)) ++ back ≡ [] → (r.answer.0 ≡ q → BodyRoot (object_number b) r.body) × X
        by true e g = absurd (let bad : session.Return (given (descriptors_of_body r.body)) (if_flag r.release_param_caps l) ∷ back ≡ [] = g in cc)
        by false e g = (λ i. absurd (apart r.answer.0 e i), f g)
    no_return (plain.Finish x) l back X f k = (tt, f k)
    no_return (plain.Resolve r) l back X f k = (tt, f k)
    no_return (plain.Release r) l back X f k = (tt, f k)
    no_return (plain.Disembargo d) l back X f k = (tt, f k)
    no_return (plain.Other n) l back X f k = (tt, f k)

    no_returns : (ns : List Noted) → rets q ns ≡ [] → AreRoots q b (messages ns)
    no_returns [] h = tt
    no_returns (n ∷ ns) h = no_return n.message n.lets (rets q ns) (AreRoots q b (messages ns)) (λ g. no_returns ns g) h

  not_working : (o : ℕ) (a : Option AnswerEntry) → NotWorking (answerer_of a) → ¬ (AnswersWith o a)
  not_working o None n h = h
  not_working o (Some a) n h = by a.returned a.finished h.1 n
    where
      by : (r : Option (List ExportId)) (f : Bool) → r ≡ None → NotWorking (answered_by (numbers a.taken) r f) → ⊥
      by None false e k = k
      by None true e k = k
      by (Some x) f e k = absurd (let bad : Some x ≡ None = e in cc)

  quiet : (s : State) → IsReady s → NotWorking (answerer_of (map.get s.answers q)) → Quiet q s
  quiet s r n o f = not_working o (map.get s.answers q) n (r.opens o q f)

-- ---- One vat's questions: s asks, w answers

-- With what is on the way to each; b is the bootstrap object of w.
abbrev Clean : ℕ → Option ObjectId → List Message → State → List Message → Type 0
Clean q b to_s w to_w = AreOther q to_w × Quiet q w × AreRoots q b to_s

abbrev Roots : Vat → List JournalEntry → Option ObjectId → State → List Message → State → List Message → Type 0
Roots v h b s to_s w to_w = (q : ℕ) (c : CallId) → IsOpenAt c (map.get s.questions q) → asking h v c.0 ≡ Some OfBootstrap → Clean q b to_s w to_w

abbrev Fresh : Option ObjectId → State → List Message → State → List Message → Type 0
Fresh b s to_s w to_w = (q : ℕ) → map.get s.questions q ≡ None → Clean q b to_s w to_w

fresh_notes : (b : Option ObjectId) (s w : State) (to_s to_w : List Noted) → IsReady w → AreRows s to_s w to_w → Fresh b s (messages to_s) w (messages to_w)
fresh_notes b s w to_s to_w r k q e =
    let row : Row session.NotAsked (outs q to_w) (answerer_of (map.get w.answers q)) (rets q to_s) = subst (λ (o : Option Question). Row (asker_of o) (outs q to_w) (answerer_of (map.get w.answers q)) (rets q to_s)) e (k q) in
    let i = idle (outs q to_w) (answerer_of (map.get w.answers q)) (rets q to_s) row in
    (others q to_w i.0, quiet q w r i.1, no_returns q b to_s i.2)

-- What was asked before was asked as it is now.
same_asking : (v : Vat) (h es : List JournalEntry) (c : CallId) (o : Option Question) → QuestionAsked v h o → IsOpenAt c o → asking (h ++ es) v c.0 ≡ Some OfBootstrap → asking h v c.0 ≡ Some OfBootstrap
same_asking v h es c None k i e = absurd i
same_asking v h es c (Some x) k i e =
    let a : WasAsked v h c.0 = subst (RoleAsked v h) i.0 k in
    let b : asking (h ++ es) v c.0 ≡ Some a.0 = still_first (asking_one v c.0) h es a.0 a.1 in
    let f : Some a.0 ≡ Some OfBootstrap = sym b ∙ e in
    a.1 ∙ f

module _ (v : Vat) (h es : List JournalEntry) (b : Option ObjectId) where
  asker : (s t w : State) (to_s rest to_w ms : List Message) → QuestionsAsked v h s.questions → Fresh b s to_s w to_w → ((q : ℕ) → AreRoots q b to_s → AreRoots q b rest)
      → ((q : ℕ) → Asks q (IsCall v (h ++ es)) s.questions t.questions ms) → Roots v h b s to_s w to_w → Roots v (h ++ es) b t rest w (to_w ++ ms)
  asker s t w to_s rest to_w ms n f r l i q c o e = by (l q c o)
    where
      on : Clean q b to_s w to_w → AreOther q ms → Clean q b rest w (to_w ++ ms)
      on k m = (other-append q to_w ms k.0 m, k.1, r q k.2)

      by : IsCall v (h ++ es) c.0 ⊎ (WasThere q (IsCall v (h ++ es)) s.questions c × AreOther q ms) → Clean q b rest w (to_w ++ ms)
      by (inl k) = absurd (let bad : Some (OfCall k.0) ≡ Some OfBootstrap = sym k.1 ∙ e in cc)
      by (inr ((inl k), m)) = on (i q c k (same_asking v h es c (map.get s.questions q) (n q) k e)) m
      by (inr ((inr k), m)) = on (f q k) m

  answerer : (s w u : State) (to_s to_w rest ms : List Message) → QuestionsAsked v h s.questions → ((q : ℕ) → AreOther q to_w → Quiet q w → AreOther q rest × Quiet q u × AreRoots q b ms)
      → Roots v h b s to_s w to_w → Roots v (h ++ es) b s (to_s ++ ms) u rest
  answerer s w u to_s to_w rest ms n l i q c o e =
      let k = i q c o (same_asking v h es c (map.get s.questions q) (n q) o e) in
      let m = l q k.0 k.1 in
      (m.0, m.1, roots-append q b to_s ms k.2 m.2)

-- ---- The oldest message

abbrev OldestInEach : Type 0
OldestInEach = InScenes OldestAreMet

unreturned : (s : State) (r : Return) (y : Question) → (p : PlainMessage) × (message.Plain (plain.Return r) ≡ message.Plain p) × IsMet s p → map.get s.questions r.answer.0 ≡ Some y → y.returned ≡ None
unreturned s r y m f =
    let same : m.0 ≡ plain.Return r = let g = m.1 in cc in
    let met : IsMet s (plain.Return r) = subst (IsMet s) same m.2 in
    let g : Some met.0 ≡ Some y = sym met.1 ∙ f in
    let h : met.0 ≡ y = cc in
    subst (λ (z : Question). z.returned ≡ None) h met.2

-- ---- Scenes

module _ (a b : Option ObjectId) (sessions : InScenes (HoldsIn Stand)) where
  abbrev hosted : Vat → Option ObjectId
  hosted A = a
  hosted B = b

  -- Of v's questions, and of v's bootstrap object.
  abbrev Of : Vat → Scene → Type 0
  Of v x = Roots v x.journal (hosted (other_vat v)) (core x.world v) (inbox x.world v) (core x.world (other_vat v)) (inbox x.world (other_vat v)) × ((core x.world v).bootstrap ≡ hosted v)

  abbrev Good : Scene → Type 0
  Good x = Of A x × Of B x

  good_at : (v : Vat) (x : Scene) → Good x → Of v x
  good_at A x k = k.0
  good_at B x k = k.1

  fresh_in : (v : Vat) (x : Scene) → HoldsIn Stand x.world → Fresh (hosted (other_vat v)) (core x.world v) (inbox x.world v) (core x.world (other_vat v)) (inbox x.world (other_vat v))
  fresh_in A x k =
      subst (λ (i : List Message). Fresh b x.world.a.core i x.world.b.core x.world.b.inbox) (sym k.is_a)
      (subst (λ (i : List Message). Fresh b x.world.a.core (messages k.to_a) x.world.b.core i) (sym k.is_b)
      (fresh_notes b x.world.a.core x.world.b.core k.to_a k.to_b k.holds.ready_t k.holds.of_s))
  fresh_in B x k =
      subst (λ (i : List Message). Fresh a x.world.b.core i x.world.a.core x.world.a.inbox) (sym k.is_b)
      (subst (λ (i : List Message). Fresh a x.world.b.core (messages k.to_b) x.world.a.core i) (sym k.is_a)
      (fresh_notes a x.world.b.core x.world.a.core k.to_b k.to_a k.holds.ready_s k.holds.of_t))

  asked_by_vat : (v : Vat) (x : Scene) → IsScene a b x → QuestionsAsked v x.journal (core x.world v).questions
  asked_by_vat v x k = (numbers_asked a b x k v).questions

  -- The vat v takes from its queue what is not in the rest.
  abbrev Took : Vat → Scene → List Message → List Message → List JournalEntry → State → Type 0
  Took v x rest ms es t =
      Roots v (x.journal ++ es) (hosted (other_vat v)) t rest (core x.world (other_vat v)) (inbox x.world (other_vat v) ++ ms)
      × Roots (other_vat v) (x.journal ++ es) (hosted v) (core x.world (other_vat v)) (inbox x.world (other_vat v) ++ ms) t rest
      × (t.bootstrap ≡ hosted v)

  took : (v : Vat) (x : Scene) (rest : List Message) (told : Effects) (t : State) (es : List JournalEntry) → IsScene a b x → Good x
      → ((q : ℕ) → AreRoots q (hosted (other_vat v)) (inbox x.world v) → AreRoots q (hosted (other_vat v)) rest)
      → ((q : ℕ) → Asks q (IsCall v (x.journal ++ es)) (core x.world v).questions t.questions told.sends)
      → ((q : ℕ) → AreOther q (inbox x.world v) → Quiet q (core x.world v) → AreOther q rest × Quiet q t × AreRoots q (hosted v) told.sends)
      → t.bootstrap ≡ hosted v → Took v x rest told.sends es t
  took A x rest told t es i k r l m n = (
    asker A x.journal es b x.world.a.core t x.world.b.core x.world.a.inbox rest x.world.b.inbox told.sends (asked_by_vat A x i) (fresh_in A x (sessions a b x i)) r l k.0.0,
    answerer B x.journal es a x.world.b.core x.world.a.core t x.world.b.inbox x.world.a.inbox rest told.sends (asked_by_vat B x i) m k.1.0,
    n,
  )
  took B x rest told t es i k r l m n = (
    asker B x.journal es a x.world.b.core t x.world.a.core x.world.b.inbox rest x.world.a.inbox told.sends (asked_by_vat B x i) (fresh_in B x (sessions a b x i)) r l k.1.0,
    answerer A x.journal es b x.world.a.core x.world.b.core t x.world.a.inbox x.world.b.inbox rest told.sends (asked_by_vat A x i) m k.0.0,
    n,
  )

  commanded : (v : Vat) (x : Scene) (told : Effects) (t : State) (es : List JournalEntry) → Good x → Took v x (inbox x.world v) told.sends es t → Good (scenes.goes_on x (after x.world v told t) es)
  commanded A x told t es k f = ((f.0, f.2), (f.1, k.1.1))
  commanded B x told t es k f = ((f.1, k.0.1), (f.0, f.2))

  received : (v : Vat) (x : Scene) (rest : List Message) (told : Effects) (t : State) (es : List JournalEntry) → Good x → Took v x rest told.sends es t → Good (scenes.goes_on x (after (put_inbox x.world v rest) v told t) es)
  received A x rest told t es k f = ((f.0, f.2), (f.1, k.1.1))
  received B x rest told t es k f = ((f.1, k.0.1), (f.0, f.2))

  longer : (v : Vat) (x : Scene) (es : List JournalEntry) → IsScene a b x → Good x → Roots v (x.journal ++ es) (hosted (other_vat v)) (core x.world v) (inbox x.world v) (core x.world (other_vat v)) (inbox x.world (other_vat v))
  longer v x es i k q c o e = (good_at v x k).0 q c o (same_asking v x.journal es c (map.get (core x.world v).questions q) (asked_by_vat v x i q) o e)

  gave_up : (v : Vat) (x : Scene) (es : List JournalEntry) → IsScene a b x → Good x → Good (scenes.stopped x v es)
  gave_up A x es i k = ((longer A x es i k, k.0.1), (longer B x es i k, k.1.1))
  gave_up B x es i k = ((longer A x es i k, k.0.1), (longer B x es i k, k.1.1))

  stepped : (x mid : Scene) → IsScene a b x → scenes.Steps x mid → Good x → Good mid
  stepped x mid i (scenes.Commanded v c g told s o up r d w e) k =
      let own = granted_entries x.journal v c g in
      let es = own ++ effect_entries v told in
      let t = core x.world v in
      let boot = (good_at v x k).1 in
      let now = asks_now v x.journal t c g (numbers_asked a b x i v).later in
      let call : (y : CallCommand) → c ≡ command.Call y → g ≡ first.next_call_of t → IsCall v (x.journal ++ es) t.next_call =
      λ y f j. subst (λ (l : List JournalEntry). IsCall v l t.next_call) (append_assoc x.journal own (effect_entries v told)) (still_call v (x.journal ++ own) (effect_entries v told) t.next_call (now.0 y f j))
      in
      rw e
      (commanded v x told s es k
      (took v x (inbox x.world v) told s es i k (λ q f. f) (λ q. opening.commands q (IsCall v (x.journal ++ es)) t c g told s call d)
      (λ q f n. let z = rooting.commands q (hosted v) t c g told s (boot, n) d in (f, z.0.1, z.1)) (hosting.commands (hosted v) t c g told s boot d)))
  stepped x mid i (scenes.Received v p ms told s o up j f d w e) k =
      let es = entry.Got v ∷ [] ++ effect_entries v told in
      let t = core x.world v in
      let boot = (good_at v x k).1 in
      rw e
      (received v x ms told s es k
      (took v x ms told s es i k (λ q g. (subst (AreRoots q (hosted (other_vat v))) j g).1) (λ q. opening.messages q (IsCall v (x.journal ++ es)) t p told s f d)
      (λ q g n. let l = subst (AreOther q) j g in let z = rooting.messages q (hosted v) t p told s f l.0 (boot, n) d in (l.1, z.0.1, z.1)) (hosting.messages (hosted v) t p told s f boot d)))
  stepped x mid i (scenes.GivesUp v c o r f e) k = rw e (gave_up v x (granted_entries x.journal v c granted.Done) i k)
  stepped x mid i (scenes.Stops v o e) k = rw e (gave_up v x [] i k)

  no_questions : (v : Vat) (r : Option ObjectId) (u : State) (p n : List Message) (t : Option ObjectId) → Roots v [] t (start v One r) p u n
  no_questions v r u p n t q c o e = absurd (subst (IsOpenAt c) (map.get-empty nat_cmp q) o)

  good : (x : Scene) → IsScene a b x → Good x
  good x k = in_each a b Good stepped ((no_questions A a (start B One b) [] [] b, refl), (no_questions B b (start A One a) [] [] a, refl)) x k

  -- ---- The oldest Return

  root_of : (v : Vat) (h : List JournalEntry) → root (history a b h) v ≡ object_number (hosted v)
  root_of A h = refl
  root_of B h = refl

  pub returns : OldestInEach → RootsReturn a b
  returns oldest x i v r ms y c e f l n o =
      let met = oldest a b x i v (message.Plain (plain.Return r)) ms e in
      let open_now : IsOpenAt c (map.get (core x.world v).questions r.answer.0) = subst (IsOpenAt c) (sym f) (l, unreturned (core x.world v) r y met f) in
      let k = (good_at v x (good x i)).0 r.answer.0 c open_now o in
      let first = (subst (AreRoots r.answer.0 (hosted (other_vat v))) e k.2).0 in
      subst (λ (z : Option ℕ). SaysRoot z (value_of_results (results_of (core x.world v) r.body))) (sym (root_of (other_vat v) x.journal)) (first refl (core x.world v))

pub roots_return : InScenes (HoldsIn Stand) → OldestInEach → RootsAreReturned
roots_return s o a b = returns a b s o

pub bootstraps_end : InScenes (HoldsIn Stand) → OldestInEach → RootsAreLeft → BootstrapsEnd
bootstraps_end s o l a b x k = l a b (returns a b s o) x k
