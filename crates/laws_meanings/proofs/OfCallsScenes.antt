-- In each scene each outcome is of the call that its caller asked.
use Rattle.std.proofs.Common.{◌≡◌, ◌⊎◌, inl, ℕ, Bool, true, nat_eq, Option, None, Some, Ok, List, [], ◌∷◌, ◌++◌, append_assoc, refl, sym, ap, subst, ◌∙◌, arith}
use Rattle.std.specs.Ordering.{nat_cmp}
use Rattle.std.specs.FinMap as map
use Rattle.rpc_msg.specs.declared.ids.Vat.{Vat}
use Rattle.rpc_msg.specs.declared.ids.Vat.TheVariants.{A, B}
use Rattle.rpc_msg.specs.declared.ids.Stamp.{Stamp}
use Rattle.rpc_msg.specs.declared.ids.ObjectId.{ObjectId}
use Rattle.rpc_msg.specs.declared.message.Message.{Message}
use Rattle.rpc_msg.specs.declared.message.Message.TheVariants as message
use Rattle.rpc_msg.specs.declared.message.PlainMessage.TheVariants as plain
use Rattle.rpc_msg.specs.Vats.{other_vat}
use Rattle.rpc_journal.specs.declared.report.Outcome.{Outcome}
use Rattle.rpc_journal.specs.declared.entry.JournalEntry.{JournalEntry}
use Rattle.rpc_journal.specs.declared.entry.JournalEntry.TheVariants as entry
use Rattle.rpc_journal.specs.History.{or_rest, if_so}
use Rattle.rpc_journal.specs.Sources.{Asking, OfBootstrap, OfCall, asking}
use Rattle.rpc_machine.specs.declared.node.Reason.{Reason}
use Rattle.rpc_machine.specs.declared.command.CallCommand.{CallCommand}
use Rattle.rpc_machine.specs.declared.command.Command.{Command}
use Rattle.rpc_machine.specs.declared.command.Command.TheVariants as command
use Rattle.rpc_machine.specs.declared.command.Granted.{Granted}
use Rattle.rpc_machine.specs.declared.command.Granted.TheVariants as granted
use Rattle.rpc_machine.specs.declared.command.Effects.{Effects}
use Rattle.rpc_machine.specs.declared.command.Level.TheVariants.{One}
use Rattle.rpc_machine.specs.declared.entries.Reference.{Reference}
use Rattle.rpc_machine.specs.State.{State, start}
use Rattle.rpc_machine.specs.Commands.{request}
use Rattle.rpc_machine.specs.Steps.{IsDone, IsHandled}
use Rattle.rpc_machine.specs.World.{World, core, inbox, put_inbox, after}
use Rattle.rpc_machine.specs.Journal.{index_in, effect_entries, granted_entries}
use Rattle.laws_steps.specs.NodesThere as reaching
use Rattle.laws_steps.specs.NodesThere.{IsReached}
use Rattle.laws_steps.proofs.Reached.{go_on}
use Rattle.laws_nodes.specs.Sources.{sources, EachHasOneSource}
use Rattle.laws_acts.specs.FirstActs as first
use Rattle.laws_acts.specs.Sent.{Noted, messages}
use Rattle.laws_runs.specs.Views.{asker_of, answerer_of, outs, rets}
use Rattle.laws_runs.specs.Worlds.{Stand}
use Rattle.laws_runs.specs.Between.{HoldsIn}
use Rattle.laws_runs.specs.SceneSessions.{InScenes}
use Rattle.laws_runs.specs.MadeCalls.{NumbersItsCalls}
use Rattle.laws_runs.proofs.Counting.{scenes_count}
use Rattle.laws_runs.specs.Scenes as scenes
use Rattle.laws_runs.specs.Scenes.{Scene, IsScene, begins}
use Rattle.laws_meanings.specs.Identities.{asked_in, asked_last, last_asked, asked_of, DeliveredIn, PromiseIs, KeptIs, EmbargoIs, TaskIs, QuestionIs, AreAskedLast, OutcomesAreOfCalls}
use Rattle.laws_runs.proofs.Reading as reading
use Rattle.laws_meanings.proofs.Identified.{last-append}
use Rattle.laws_meanings.proofs.LastAsked.{none_more, of_effects, of_other_effects, of_own, asked-append, first_asks, while_working}
use Rattle.laws_meanings.proofs.Asking.{next_is, numbers_asked}
use Rattle.laws_meanings.proofs.Walked.{in_each}
use Rattle.laws_meanings.proofs.Whose as whose
use Rattle.laws_meanings.proofs.Whose.{any_break}
use Rattle.laws_acts.proofs.Commanded.{does}
use Rattle.laws_acts.proofs.Received.{handles}
use Rattle.laws_meanings.specs.NodeLabels.{IsIn}
use Rattle.laws_meanings.proofs.WhoseFirst as walk
use Rattle.finite_maps.proofs.Tested.{itself}
use Rattle.rpc_msg.specs.declared.ids.QuestionId.{QuestionId}
use Rattle.rpc_msg.specs.declared.message.Call.{Call}
use Rattle.rpc_machine.specs.declared.entries.AnswerEntry.{AnswerEntry}
use Rattle.laws_nodes.specs.Sources.{waits_for}
use Rattle.laws_acts.specs.Sent.{Ids}
use Rattle.laws_runs.specs.Questions.{Asker, Answerer, Ret, Row}
use Rattle.laws_meanings.proofs.OfCalls.{Parts, Mine, NoneOpen, carry, quiet_mine, moved, theirs, sent_last, still_last, rest_last, same_last}
use Rattle.laws_runs.proofs.FallsInRuns.{leads_more}

-- ---- What a command asks

pub root_asked : (h : List JournalEntry) (v : Vat) (s : State) (c : Command) (g : Granted) → asking h v s.next_call ≡ None → c ≡ command.Bootstrap → g ≡ first.next_call_of s → asking (h ++ granted_entries h v c g) v s.next_call ≡ Some OfBootstrap
root_asked h v s c g l e f =
    subst (λ (d : Command). asking (h ++ granted_entries h v d g) v s.next_call ≡ Some OfBootstrap) (sym e)
    (subst (λ (b : Granted). asking (h ++ granted_entries h v command.Bootstrap b) v s.next_call ≡ Some OfBootstrap) (sym f) (next_is v h s.next_call _ OfBootstrap l refl))

pub call_asked : (h : List JournalEntry) (v : Vat) (s : State) (c : Command) (g : Granted) → asking h v s.next_call ≡ None → NumbersItsCalls v s h
    → (k : CallCommand) (x : Reference) → c ≡ command.Call k → map.get s.refs k.reference.0 ≡ Some x → g ≡ first.next_call_of s → asking (h ++ granted_entries h v c g) v s.next_call ≡ Some (OfCall (request s k x).stamp)
call_asked h v s c g l m k x e there f =
    subst (λ (d : Command). asking (h ++ granted_entries h v d g) v s.next_call ≡ Some (OfCall (request s k x).stamp)) (sym e)
    (subst (λ (b : Granted). asking (h ++ granted_entries h v (command.Call k) b) v s.next_call ≡ Some (OfCall (request s k x).stamp)) (sym f)
    (next_is v h s.next_call _ (OfCall (record { vat = v; reference = k.reference; index = index_in h v k.reference })) l refl ∙ ap (λ (z : Stamp). Some (OfCall z)) (sym (m.stamps k x there))))

-- ---- Rows

pub none_open : (v : Vat) (w : World) → HoldsIn Stand w → NoneOpen (core w v) (inbox w v)
none_open A w k o q i =
    ap (asked_last q) k.is_a ∙ while_working q k.to_a (asker_of (map.get w.b.core.questions q)) o (map.get w.a.core.answers q) (rets q k.to_b) (k.holds.of_t q) (k.holds.ready_s.opens o q i)
none_open B w k o q i =
    ap (asked_last q) k.is_b ∙ while_working q k.to_b (asker_of (map.get w.a.core.questions q)) o (map.get w.b.core.answers q) (rets q k.to_a) (k.holds.of_s q) (k.holds.ready_t.opens o q i)

behind_first : (q : ℕ) (a : Asking) (m : Message) (ms : List Message) (ns : List Noted) (z : Asker Ids Ids) (u : Answerer Ids Ids) (back : List (Ret Ids Ids)) → m ∷ ms ≡ messages ns → Row z (outs q ns) u back → asked_in q m ≡ Some a → asked_last q ms ≡ None
behind_first q a m ms [] z u back e row f = absurd (let bad : m ∷ ms ≡ [] = e in cc)
behind_first q a m ms (n ∷ ns) z u back e row f =
    let same : m ≡ message.Plain n.message = cc in
    let rest : ms ≡ messages ns = cc in
    ap (asked_last q) rest ∙ first_asks q n ns z u back a row (sym (ap (asked_in q) same) ∙ f)

-- Behind the oldest message that asks with an id none does.
pub none_behind : (v : Vat) (w : World) (m : Message) (ms : List Message) → HoldsIn Stand w → inbox w v ≡ m ∷ ms → (q : ℕ) (a : Asking) → asked_in q m ≡ Some a → asked_last q ms ≡ None
none_behind A w m ms k e q a f =
    behind_first q a m ms k.to_a (asker_of (map.get w.b.core.questions q)) (answerer_of (map.get w.a.core.answers q)) (rets q k.to_b) (sym e ∙ k.is_a) (k.holds.of_t q) f
none_behind B w m ms k e q a f =
    behind_first q a m ms k.to_b (asker_of (map.get w.a.core.questions q)) (answerer_of (map.get w.b.core.answers q)) (rets q k.to_a) (sym e ∙ k.is_b) (k.holds.of_s q) f

fewer_open : (s : State) (to ms : List Message) → NoneOpen s (to ++ ms) → NoneOpen s ms
fewer_open s to ms i o q f = by (asked_last q ms) (sym (last-append q to ms) ∙ i o q f)
  where
    by : (x : Option Asking) → or_rest x (asked_last q to) ≡ None → x ≡ None
    by None g = refl
    by (Some b) g = absurd (let bad : Some b ≡ None = g in cc)

open_after : (v : Vat) (w : World) (told : Effects) (t : State) → HoldsIn Stand (after w v told t) → NoneOpen (core w (other_vat v)) told.sends
open_after A w told t k = fewer_open w.b.core w.b.inbox told.sends (none_open B (after w A told t) k)
open_after B w told t k = fewer_open w.a.core w.a.inbox told.sends (none_open A (after w B told t) k)

open_taken : (v : Vat) (w : World) (ms : List Message) (told : Effects) (t : State) → HoldsIn Stand (after (put_inbox w v ms) v told t) → NoneOpen (core w (other_vat v)) told.sends
open_taken A w ms told t k = fewer_open w.b.core w.b.inbox told.sends (none_open B (after (put_inbox w A ms) A told t) k)
open_taken B w ms told t k = fewer_open w.a.core w.a.inbox told.sends (none_open A (after (put_inbox w B ms) B told t) k)

-- What is asked by the oldest message was asked last.
pub first_last : (h : List JournalEntry) (u v : Vat) (w : World) (m : Message) (ms : List Message) → HoldsIn Stand w → inbox w v ≡ m ∷ ms → AreAskedLast h u (inbox w v) → (q : ℕ) (a : Asking) → asked_in q m ≡ Some a → last_asked h u q ≡ Some a
first_last h u v w m ms k e i q a f = i q a (ap (asked_last q) e ∙ ap (λ (o : Option Asking). or_rest o (asked_in q m)) (none_behind v w m ms k e q a f) ∙ f)

pub asks_root : (q : QuestionId) (m : Message) → m ≡ message.Plain (plain.Bootstrap q) → asked_in q.0 m ≡ Some OfBootstrap
asks_root q m e = ap (asked_in q.0) e ∙ by (nat_eq q.0 q.0) (itself q.0)
  where
    by : (b : Bool) → b ≡ true → if_so b OfBootstrap ≡ Some OfBootstrap
    by b f = rw f refl

pub asks_call : (c : Call) (m : Message) → m ≡ message.Plain (plain.Call c) → asked_in c.question.0 m ≡ Some (OfCall c.stamp)
asks_call c m e = ap (asked_in c.question.0) e ∙ by (nat_eq c.question.0 c.question.0) (itself c.question.0)
  where
    by : (b : Bool) → b ≡ true → if_so b (OfCall c.stamp) ≡ Some (OfCall c.stamp)
    by b f = rw f refl

-- ---- Reached states

module _ (a b : Option ObjectId) where
  abbrev Both : Scene → Type 0
  Both x = IsReached x.world.a.core × IsReached x.world.b.core

  pub reached_at : (v : Vat) (x : Scene) → Both x → IsReached (core x.world v)
  reached_at A x k = k.0
  reached_at B x k = k.1

  put_reached : (v : Vat) (x : Scene) (told : Effects) (t : State) (es : List JournalEntry) → IsReached t → Both x → Both (scenes.goes_on x (after x.world v told t) es)
  put_reached A x told t es r k = (r, k.1)
  put_reached B x told t es r k = (k.0, r)

  took_reached : (v : Vat) (x : Scene) (ms : List Message) (told : Effects) (t : State) (es : List JournalEntry) → IsReached t → Both x → Both (scenes.goes_on x (after (put_inbox x.world v ms) v told t) es)
  took_reached A x ms told t es r k = (r, k.1)
  took_reached B x ms told t es r k = (k.0, r)

  stops_reached : (v : Vat) (x : Scene) (es : List JournalEntry) → Both x → Both (scenes.stopped x v es)
  stops_reached A x es k = k
  stops_reached B x es k = k

  reaches : (x mid : Scene) → scenes.Steps x mid → Both x → Both mid
  reaches x mid (scenes.Commanded v c g told s o up r d w e) k =
      rw e (put_reached v x told s (granted_entries x.journal v c g ++ effect_entries v told) (go_on (core x.world v) s (reached_at v x k) (reaching.Commanded c (Ok g) told (IsDone g r refl d w) reaching.Stays)) k)
  reaches x mid (scenes.Received v m ms told s o up j f d w e) k =
      rw e (took_reached v x ms told s (entry.Got v ∷ [] ++ effect_entries v told) (go_on (core x.world v) s (reached_at v x k) (reaching.Received m told (IsHandled up f d w) reaching.Stays)) k)
  reaches x mid (scenes.GivesUp v c o r f e) k = rw e (stops_reached v x (granted_entries x.journal v c granted.Done) k)
  reaches x mid (scenes.Stops v o e) k = rw e (stops_reached v x [] k)

  pub both_reached : (x : Scene) → IsScene a b x → Both x
  both_reached x k = in_each a b Both (λ y mid i t p. reaches y mid t p) ((A, One, a, reaching.Stays), (B, One, b, reaching.Stays)) x k

-- ---- Scenes

abbrev Any : ℕ → Type 0
Any q = Unit {0}

abbrev Free : Asking → Outcome → ℕ → Type 0
Free a x n = Unit {0}

abbrev Never : Stamp → Type 0
Never s = Unit {0}

free : (s : Stamp) (why : Reason) → Unit {0} → Unit {0}
free s why e = tt

-- Its own entries ask nothing by messages.
pub es_asks : (own : List JournalEntry) (v : Vat) (x : Effects) (q : ℕ) → last_asked own v q ≡ None → last_asked (own ++ effect_entries v x) v q ≡ asked_last q x.sends
es_asks own v x q e = asked-append own (effect_entries v x) v q ∙ ap (λ (o : Option Asking). or_rest (last_asked (effect_entries v x) v q) o) e ∙ by (last_asked (effect_entries v x) v q) ∙ of_effects v q x
  where
    by : (o : Option Asking) → or_rest o None ≡ o
    by None = refl
    by (Some y) = refl

pub es_none : (own : List JournalEntry) (v : Vat) (x : Effects) (q : ℕ) → last_asked own (other_vat v) q ≡ None → last_asked (own ++ effect_entries v x) (other_vat v) q ≡ None
es_none own v x q e = none_more (other_vat v) q own (effect_entries v x) (of_other_effects (other_vat v) q v (reading.other v) x) ∙ e

pub twice : (v : Vat) → other_vat (other_vat v) ≡ v
twice A = refl
twice B = refl

-- As the walk wants it.
pub begins_so : (h : List JournalEntry) (v : Vat) (s : State) → Mine h v s → Parts (asked_of h v) (last_asked h v) (λ k z. DeliveredIn h v k z ⊎ IsIn k z []) s
begins_so h v s i =
    carry (asked_of h v) (asked_of h v) (last_asked h v) (last_asked h v) (DeliveredIn h v) (λ k z. DeliveredIn h v k z ⊎ IsIn k z []) s (λ o a j. j) (λ c a e. e) (λ q a e. e) (λ k z d. inl d) i

module _ (law : EachHasOneSource) (sessions : InScenes (HoldsIn Stand)) (a b : Option ObjectId) where
  abbrev At : Vat → Scene → Type 0
  At v x = Mine x.journal v (core x.world v) × AreAskedLast x.journal (other_vat v) (inbox x.world v)

  abbrev Good : Scene → Type 0
  Good x = At A x × At B x

  at : (v : Vat) (x : Scene) → Good x → At v x
  at A x k = k.0
  at B x k = k.1

  -- An outcome that is not there has no source.
  pub no_source : (v : Vat) (x : Scene) → IsScene a b x → (u : ℕ) → map.get (core x.world v).outcomes u ≡ None → sources u (core x.world v) ≡ 0
  no_source v x k u e =
      let o = law (core x.world v) (reached_at a b v x (both_reached a b x k)) in
      let f = o.each u in
      let g : waits_for (map.get (core x.world v).outcomes u) ≡ 0 = ap waits_for e in
      omega arith

  abbrev Begins : List JournalEntry → Vat → State → Type 0
  Begins h v s = walk.Begins (asked_of h v) (last_asked h v) (DeliveredIn h v) Free Any Never free s

  all_answers : (h : List JournalEntry) (v : Vat) (s : State) → whose.Answers (asked_of h v) (last_asked h v) (DeliveredIn h v) Free Any Never free s.answers
  all_answers h v s q = by (map.get s.answers q)
    where
      by : (o : Option AnswerEntry) → whose.AnswerIs (asked_of h v) (last_asked h v) (DeliveredIn h v) Free Any Never free q o
      by None = tt
      by (Some x) = λ e. tt

  -- With its own entries behind, and what its effects write.
  abbrev Moves : Vat → Scene → List Message → Effects → State → List JournalEntry → Type 0
  Moves v x rest told t es =
      Mine (x.journal ++ es) v t × AreAskedLast (x.journal ++ es) (other_vat v) rest × Mine (x.journal ++ es) (other_vat v) (core x.world (other_vat v)) × AreAskedLast (x.journal ++ es) v (inbox x.world (other_vat v) ++ told.sends)

  went_on : (v : Vat) (x : Scene) (told : Effects) (t : State) (es : List JournalEntry) → Moves v x (inbox x.world v) told t es → Good (scenes.goes_on x (after x.world v told t) es)
  went_on A x told t es m = ((m.0, m.1), (m.2, m.3))
  went_on B x told t es m = ((m.2, m.3), (m.0, m.1))

  took : (v : Vat) (x : Scene) (ms : List Message) (told : Effects) (t : State) (es : List JournalEntry) → Moves v x ms told t es → Good (scenes.goes_on x (after (put_inbox x.world v ms) v told t) es)
  took A x ms told t es m = ((m.0, m.1), (m.2, m.3))
  took B x ms told t es m = ((m.2, m.3), (m.0, m.1))

  others : (v : Vat) (x : Scene) → Good x → Mine x.journal (other_vat v) (core x.world (other_vat v)) × AreAskedLast x.journal v (inbox x.world (other_vat v))
  others A x k = k.1
  others B x k = k.0

  moves : (v : Vat) (x : Scene) (rest : List Message) (told : Effects) (t : State) (own : List JournalEntry) → ((u : Vat) (q : ℕ) → last_asked own u q ≡ None) → NoneOpen (core x.world (other_vat v)) told.sends → Good x
      → AreAskedLast x.journal (other_vat v) rest → Parts (asked_of (x.journal ++ own) v) (λ q. or_rest (asked_last q told.sends) (last_asked (x.journal ++ own) v q)) (λ k z. DeliveredIn (x.journal ++ own) v k z ⊎ IsIn k z told.deliveries) t
      → Moves v x rest told t (own ++ effect_entries v told)
  moves v x rest told t own n o k l p =
      let h = x.journal in
      let es = own ++ effect_entries v told in
      let u = other_vat v in
      let mine = subst (λ (j : List JournalEntry). Mine j v t) (append_assoc h own (effect_entries v told)) (moved (h ++ own) v t told p) in
      let asks : (q : ℕ) → last_asked es v q ≡ asked_last q told.sends = λ q. es_asks own v told q (n v q) in
      let none : (q : ℕ) → last_asked es u q ≡ None = λ q. es_none own v told q (n u q) in
      let their = others v x k in
      (mine, still_last h es u rest none l, theirs h es v (core x.world u) told.sends asks none o (twice v) their.0, sent_last h es v (inbox x.world u) told.sends asks their.1)

  stopped : (v : Vat) (x : Scene) (es : List JournalEntry) → ((u : Vat) (q : ℕ) → last_asked es u q ≡ None) → Good x → Good (scenes.stopped x v es)
  stopped A x es n k = ((quiet_mine x.journal es A x.world.a.core n k.0.0, still_last x.journal es B x.world.a.inbox (n B) k.0.1), (quiet_mine x.journal es B x.world.b.core n k.1.0, still_last x.journal es A x.world.b.inbox (n A) k.1.1))
  stopped B x es n k = ((quiet_mine x.journal es A x.world.a.core n k.0.0, still_last x.journal es B x.world.a.inbox (n B) k.0.1), (quiet_mine x.journal es B x.world.b.core n k.1.0, still_last x.journal es A x.world.b.inbox (n A) k.1.1))

  stepped : (x mid : Scene) → IsScene a b x → scenes.Steps x mid → Good x → Good mid
  stepped x mid i (scenes.Commanded v c g told s o up r d w e) k =
      let h = x.journal in
      let own = granted_entries h v c g in
      let t = core x.world v in
      let n : (u : Vat) (q : ℕ) → last_asked own u q ≡ None = λ u q. of_own u q v h c g in
      let later = (numbers_asked a b x i v).later t.next_call (omega arith) in
      let now : walk.Commanded (asked_of (h ++ own) v) (last_asked (h ++ own) v) (DeliveredIn (h ++ own) v) Free Any Never free t c g = record {
        root = λ y z. root_asked h v t c g later y z;
        call = λ y z f j l. call_asked h v t c g later (scenes_count a b x i v) y z f j l;
        answers = λ y p rs z l f q j. tt;
        fails = λ y p z l f q j. tt;
      } in
      let begun : Begins (h ++ own) v t = (begins_so (h ++ own) v t (quiet_mine h own v t n (at v x k).0), all_answers (h ++ own) v t, no_source v x i) in
      let acts = does t c g told s d in
      let left = walk.commands (asked_of (h ++ own) v) (last_asked (h ++ own) v) (DeliveredIn (h ++ own) v) Free Any Never free t c g told s now begun acts (any_break (asked_of (h ++ own) v) (last_asked (h ++ own) v) (DeliveredIn (h ++ own) v) Free Any free acts.last acts.started acts.acts) in
      let next : HoldsIn Stand (after x.world v told s) = sessions a b _ (subst (IsScene a b) e (leads_more x mid (begins a b) i (scenes.Commanded v c g told s o up r d w e))) in
      rw e (went_on v x told s (own ++ effect_entries v told) (moves v x (inbox x.world v) told s own n (open_after v x.world told s next) k (at v x k).1 left.0))
  stepped x mid i (scenes.Received v m ms told s o up j f d w e) k =
      let h = x.journal in
      let own = entry.Got v ∷ [] in
      let t = core x.world v in
      let n : (u : Vat) (q : ℕ) → last_asked own u q ≡ None = λ u q. refl in
      let stands = sessions a b x i in
      let asked_now : (q : ℕ) (y : Asking) → asked_in q m ≡ Some y → last_asked (h ++ own) (other_vat v) q ≡ Some y =
      λ q y z. same_last h own (other_vat v) q y refl (first_last h (other_vat v) v x.world m ms stands j (at v x k).1 q y z)
      in
      let now : walk.Hears (asked_of (h ++ own) v) (last_asked (h ++ own) v) (DeliveredIn (h ++ own) v) Free Any Never free t m = record {
        root = λ q z. asked_now q.0 OfBootstrap (asks_root q m z);
        roots = tt;
        call = λ c z. asked_now c.question.0 (OfCall c.stamp) (asks_call c m z);
        says = λ y z l p u q v0 w0. tt;
        finish = λ y z l p q. tt;
      } in
      let begun : Begins (h ++ own) v t = (begins_so (h ++ own) v t (quiet_mine h own v t n (at v x k).0), all_answers (h ++ own) v t, no_source v x i) in
      let acts = handles t m told s f d in
      let left = walk.messages (asked_of (h ++ own) v) (last_asked (h ++ own) v) (DeliveredIn (h ++ own) v) Free Any Never free t m told s now begun acts (any_break (asked_of (h ++ own) v) (last_asked (h ++ own) v) (DeliveredIn (h ++ own) v) Free Any free acts.last acts.consumed acts.acts) in
      let next : HoldsIn Stand (after (put_inbox x.world v ms) v told s) = sessions a b _ (subst (IsScene a b) e (leads_more x mid (begins a b) i (scenes.Received v m ms told s o up j f d w e))) in
      let rest = rest_last h (other_vat v) m ms (subst (AreAskedLast h (other_vat v)) j (at v x k).1) in
      rw e (took v x ms told s (own ++ effect_entries v told) (moves v x ms told s own n (open_taken v x.world ms told s next) k rest left.0))
  stepped x mid i (scenes.GivesUp v c o r f e) k = rw e (stopped v x (granted_entries x.journal v c granted.Done) (λ u q. of_own u q v x.journal c granted.Done) k)
  stepped x mid i (scenes.Stops v o e) k = rw e (stopped v x [] (λ u q. refl) k)

  none : (v : Vat) (o : Option ObjectId) → Mine [] v (start v One o)
  none v o = (
    λ k. subst (TaskIs (asked_of [] v) map.empty (DeliveredIn [] v) k) (sym (map.get-empty nat_cmp k)) tt,
    λ q. subst (QuestionIs (asked_of [] v) map.empty None) (sym (map.get-empty nat_cmp q)) tt,
    λ p. subst (PromiseIs (asked_of [] v) map.empty) (sym (map.get-empty nat_cmp p)) tt,
    λ k. subst (KeptIs (asked_of [] v) map.empty) (sym (map.get-empty nat_cmp k)) tt,
    λ k. subst (EmbargoIs (asked_of [] v) map.empty) (sym (map.get-empty nat_cmp k)) tt,
  )

  none_asked : (v : Vat) → AreAskedLast [] v []
  none_asked v q y e = e

  good : (x : Scene) → IsScene a b x → Good x
  good x k = in_each a b Good stepped ((none A a, none_asked B), (none B b, none_asked A)) x k

  pub mine_in : (v : Vat) (x : Scene) → IsScene a b x → Mine x.journal v (core x.world v) × AreAskedLast x.journal (other_vat v) (inbox x.world v)
  mine_in v x k = at v x (good x k)

pub outcomes_of_calls : EachHasOneSource → InScenes (HoldsIn Stand) → OutcomesAreOfCalls
outcomes_of_calls law sessions a b x k v =
    let m = mine_in law sessions a b v x k in
    let i = m.0 in
    (record { tasks = i.0; questions = i.1; promises = i.2; outcomes = i.3; embargoes = i.4 }, m.1)
