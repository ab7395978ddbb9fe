-- What a Return says, while its question is wanted, is what was answered to the delivery of the call, or that it is broken;
-- so each call ends so, in each scene.
use Rattle.std.proofs.Common.{◌≡◌, inl, inr, ℕ, ◌≤◌, true, false, Option, None, Some, List, [], ◌∷◌, ◌++◌, length, map, append_assoc, refl, sym, ap, subst, ◌∙◌, arith, ◌+◌}
use Rattle.std.specs.FinMap as map
use Rattle.finite_maps.specs.Tally.{Map}
use Rattle.rpc_msg.specs.declared.ids.Vat.{Vat}
use Rattle.rpc_msg.specs.declared.ids.Vat.TheVariants.{A, B}
use Rattle.rpc_msg.specs.declared.ids.Stamp.{Stamp}
use Rattle.rpc_msg.specs.declared.ids.ObjectId.{ObjectId}
use Rattle.rpc_msg.specs.declared.message.Message.{Message}
use Rattle.rpc_msg.specs.declared.message.Message.TheVariants as message
use Rattle.rpc_msg.specs.declared.message.PlainMessage.{PlainMessage}
use Rattle.rpc_msg.specs.declared.message.PlainMessage.TheVariants as plain
use Rattle.rpc_msg.specs.declared.message.Return.{Return}
use Rattle.rpc_msg.specs.declared.message.ReturnBody.{ReturnBody}
use Rattle.rpc_msg.specs.Vats.{other_vat}
use Rattle.rpc_journal.specs.declared.report.Ended.{Ended}
use Rattle.rpc_journal.specs.declared.report.Outcome.TheVariants as outcome
use Rattle.rpc_journal.specs.declared.entry.JournalEntry.{JournalEntry}
use Rattle.rpc_journal.specs.declared.entry.JournalEntry.TheVariants as entry
use Rattle.rpc_journal.specs.History.{or_rest}
use Rattle.rpc_journal.specs.Sources.{Asking, OfBootstrap, OfCall, asking, asking_one}
use Rattle.rpc_machine.specs.declared.node.Reason.{Reason}
use Rattle.rpc_machine.specs.declared.command.Command.{Command}
use Rattle.rpc_machine.specs.declared.command.Granted.{Granted}
use Rattle.rpc_machine.specs.declared.command.Granted.TheVariants as granted
use Rattle.rpc_machine.specs.declared.command.Effects.{Effects}
use Rattle.rpc_machine.specs.declared.entries.AnswerEntry.{AnswerEntry}
use Rattle.rpc_machine.specs.declared.entries.Question.{Question}
use Rattle.rpc_machine.specs.State.{State}
use Rattle.rpc_machine.specs.Messages.{value_of_results}
use Rattle.rpc_machine.specs.Routing.{failed, reason_text}
use Rattle.rpc_machine.specs.Sweeping.{IsNotSent}
use Rattle.rpc_machine.specs.World.{World, core, inbox, put_inbox, after}
use Rattle.rpc_machine.specs.Journal.{went_down, effect_entries, granted_entries}
use Rattle.rpc_machine.specs.Claims.{Upto, history}
use Rattle.laws_nodes.specs.Sources.{EachHasOneSource}
use Rattle.laws_acts.specs.MessageActs.{Back, Brings, returning}
use Rattle.laws_acts.specs.MessageActs as heard
use Rattle.laws_runs.specs.Worlds.{Stand}
use Rattle.laws_runs.specs.Between.{HoldsIn}
use Rattle.laws_runs.specs.SceneSessions.{InScenes, OldestAreMet}
use Rattle.laws_runs.proofs.Counting.{scenes_count}
use Rattle.laws_runs.proofs.Reading.{still_first}
use Rattle.laws_runs.specs.Scenes as scenes
use Rattle.laws_runs.specs.Scenes.{Scene, IsScene, begins}
use Rattle.laws_meanings.specs.OnePlace.{deliveries_of}
use Rattle.laws_meanings.specs.Identities.{asked_in, asked_last, last_asked, asked_of, DeliveredIn}
use Rattle.laws_meanings.specs.AnsweredEnds.{AnsweredOrBroken, IfCallEnds, CallsEndAsAnswered}
use Rattle.laws_messages.proofs.Filled.{heads_length}
use Rattle.laws_meanings.proofs.Entries.{Claim, EachAfter, each-append, each_always, upto, is_effect, granted_always}
use Rattle.laws_meanings.proofs.Identified.{last-append}
use Rattle.laws_meanings.proofs.LastAsked.{of_own}
use Rattle.laws_meanings.proofs.Awaited.{IsWanted, Waits}
use Rattle.laws_meanings.proofs.Awaited as awaited
use Rattle.laws_meanings.proofs.Replies.{For, answered, still_so, is_said}
use Rattle.laws_meanings.proofs.Returning.{IsReturn, HasReturn, Unwanted, none_asked, it_waits, only_return, is_unwanted, fin_unwanted}
use Rattle.laws_meanings.proofs.OfCalls.{quiet_mine, same_last}
use Rattle.laws_meanings.proofs.OfCallsScenes.{root_asked, call_asked, first_last, asks_root, asks_call, es_asks, es_none, twice, begins_so, no_source, mine_in}
use Rattle.laws_meanings.proofs.Asking.{numbers_asked}
use Rattle.laws_meanings.proofs.Placed.{entries-append}
use Rattle.laws_meanings.specs.OnePlace.{waiting, in_message}
use Rattle.laws_meanings.proofs.Placed.{times_made}
use Rattle.laws_meanings.proofs.Placing.{Fewer, Leaves, at_one_place, at_most, made_at_most_once, own_none, commanded, received}
use Rattle.laws_meanings.proofs.Placing as placing
use Rattle.laws_meanings.proofs.Broken as over
use Rattle.laws_acts.proofs.Commanded.{does}
use Rattle.laws_acts.proofs.Received.{handles}
use Rattle.laws_meanings.proofs.Tasking.{tasks_open}
use Rattle.laws_meanings.proofs.Walked.{in_each}
use Rattle.laws_meanings.proofs.Whose as whose
use Rattle.laws_meanings.proofs.WhoseFirst as walk
use Rattle.laws_runs.proofs.FallsInRuns.{leads_more}

-- The call is at no place any more.
abbrev Gone : Scene → Stamp → Type 0
Gone x z = Fewer z 1 x

module _ (G : Stamp → Type 0) where
  broke : (h : List JournalEntry) (s : Stamp) (why : Reason) → G s → For G h (OfCall s) (outcome.Exception (failed (reason_text why))) 0
  broke h s why e = inr ((why, refl, refl), e)

  -- What the vat u has sent and what is on its way says so, to the vat with these questions.
  abbrev Say : List JournalEntry → Vat → Map Question → List Message → Type 0
  Say h u qs ms = whose.AllSay (asked_of h u) (last_asked h u) (DeliveredIn h u) (For G h) (Unwanted qs) G (broke h) ms

  abbrev SayOne : List JournalEntry → Vat → Map Question → Message → Type 0
  SayOne h u qs m = whose.MessageSays (asked_of h u) (last_asked h u) (DeliveredIn h u) (For G h) (Unwanted qs) G (broke h) m

  abbrev SaysIt : List JournalEntry → Vat → Map Question → ℕ → ReturnBody → Type 0
  SaysIt h u qs q y = whose.SaysIt (asked_of h u) (last_asked h u) (DeliveredIn h u) (For G h) (Unwanted qs) G (broke h) q y

  say-append : (h : List JournalEntry) (u : Vat) (qs : Map Question) (ms ns : List Message) → Say h u qs ms → Say h u qs ns → Say h u qs (ms ++ ns)
  say-append h u qs [] ns i j = j
  say-append h u qs (m ∷ ms) ns i j = (i.0, say-append h u qs ms ns i.1 j)

-- With more entries, and other questions.
module _ (G K : Stamp → Type 0) (g : (s : Stamp) → G s → K s) (h es : List JournalEntry) (u : Vat) (qs rs : Map Question) where
  abbrev Goes : ℕ → Type 0
  Goes q = (Unwanted qs q → Unwanted rs q) × (last_asked es (other_vat u) q ≡ None)

  one_more : (m : Message) → ((q : ℕ) → IsReturn q m → Goes q) → SayOne G h u qs m → SayOne K (h ++ es) u rs m
  one_more (message.Plain (plain.Return r)) f i = by (f r.answer.0 refl) i
    where
      by : Goes r.answer.0 → SaysIt G h u qs r.answer.0 r.body → SaysIt K (h ++ es) u rs r.answer.0 r.body
      by z (inl w) = inl (z.0 w)
      by z (inr y) = inr (y.0, same_last h es (other_vat u) r.answer.0 y.0 z.1 y.1, λ s. still_so G K g h es y.0 _ _ (y.2 s))
  one_more (message.Plain (plain.Abort x)) f i = tt
  one_more (message.Plain (plain.Bootstrap p)) f i = tt
  one_more (message.Plain (plain.Call c)) f i = tt
  one_more (message.Plain (plain.Finish x)) f i = tt
  one_more (message.Plain (plain.Resolve x)) f i = tt
  one_more (message.Plain (plain.Release x)) f i = tt
  one_more (message.Plain (plain.Disembargo x)) f i = tt
  one_more (message.Plain (plain.Other n)) f i = tt
  one_more (message.Unimplemented m) f i = tt

  say_more : (ms : List Message) → ((q : ℕ) → HasReturn q ms → Goes q) → Say G h u qs ms → Say K (h ++ es) u rs ms
  say_more [] f i = tt
  say_more (m ∷ ms) f i = (one_more m (λ q r. f q (inl r)) i.0, say_more ms (λ q r. f q (inr r)) i.1)

-- ---- Ends

abbrev IfSo : Claim
IfSo h e = IfCallEnds (record { journal = h; root_a = None; root_b = None }) e

no_end : (l : List JournalEntry) (e : JournalEntry) → is_effect e ≡ false → IfSo l e
no_end l (entry.Ended v x) f = absurd (let g : true ≡ false = f in cc)
no_end l e f = tt

abbrev Ends : (Stamp → Type 0) → List JournalEntry → Vat → Map Question → List Ended → Type 0
Ends G h v qs xs = whose.EndsAre (asked_of h v) (last_asked h v) (DeliveredIn h v) (For G h) (Unwanted qs) G (broke G h) xs

-- None of those that are over is delivered.
abbrev NoneOf : (Stamp → Type 0) → List JournalEntry → Type 0
NoneOf G l = (z : Stamp) → G z → deliveries_of z l ≡ 0

module _ (G : Stamp → Type 0) where
  ends_fine : (v : Vat) (h more : List JournalEntry) (qs : Map Question) (xs : List Ended) → NoneOf G (h ++ more) → Ends G h v qs xs → EachAfter IfSo (h ++ more) (map (entry.Ended v) xs)
  ends_fine v h more qs [] o i = tt
  ends_fine v h more qs (x ∷ xs) o i =
      let y = i.0 in
      let longer : NoneOf G (h ++ (more ++ entry.Ended v x ∷ [])) = subst (NoneOf G) (append_assoc h more (entry.Ended v x ∷ [])) (λ z e. let p = o z e in let q = entries-append z (h ++ more) (entry.Ended v x ∷ []) in omega arith) in (
        λ a e.
            let s : asking (h ++ more) v x.call.0 ≡ Some y.0 = still_first (asking_one v x.call.0) h more y.0 y.1 in
            let same : y.0 ≡ a = let z : Some y.0 ≡ Some a = sym s ∙ e in cc in
            subst (λ (k : Asking). AnsweredOrBroken (h ++ more) k x.outcome (length x.refs)) same (is_said G (h ++ more) o y.0 x.outcome (length x.refs) (still_so G G (λ z p. p) h more y.0 x.outcome (length x.refs) y.2)),
        subst (λ (l : List JournalEntry). EachAfter IfSo l (map (entry.Ended v) xs)) (sym (append_assoc h more (entry.Ended v x ∷ []))) (ends_fine v h (more ++ entry.Ended v x ∷ []) qs xs longer i.1),
      )

none_down : (v : Vat) (h : List JournalEntry) (o : Option ℕ) → EachAfter IfSo h (went_down v o)
none_down v h None = tt
none_down v h (Some n) = (tt, tt)

effects_fine : (G : Stamp → Type 0) (v : Vat) (h : List JournalEntry) (qs : Map Question) (x : Effects) → NoneOf G (h ++ effect_entries v x) → Ends G h v qs x.answers → EachAfter IfSo h (effect_entries v x)
effects_fine G v h qs x o f =
    let ms = map (entry.Sent v) x.sends in
    let ds = map (entry.Delivered v) x.deliveries in
    let es = map (entry.Ended v) x.answers in
    let down = went_down v x.down in
    let ahead : NoneOf G (h ++ (ms ++ ds)) =
    λ z e.
    let p = o z e in
    let q = entries-append z h (ms ++ ds ++ es ++ down) in
    let r = entries-append z (ms ++ ds ++ es) down in
    let y = entries-append z (ms ++ ds) es in
    let w = entries-append z h (ms ++ ds) in
    omega arith
    in
    each-append IfSo h (ms ++ ds ++ es) (went_down v x.down)
    (each-append IfSo h (ms ++ ds) es
    (each-append IfSo h ms ds (each_always IfSo (entry.Sent v) (λ l y. tt) h x.sends) (each_always IfSo (entry.Delivered v) (λ l y. tt) (h ++ ms) x.deliveries))
    (ends_fine G v h (ms ++ ds) qs x.answers ahead f))
    (none_down v (h ++ (ms ++ ds ++ es)) x.down)

-- ---- Steps of worlds

fewer : (q : ℕ) (to ms : List Message) → asked_last q (to ++ ms) ≡ None → asked_last q ms ≡ None
fewer q to ms e = by (asked_last q ms) (sym (last-append q to ms) ∙ e)
  where
    by : (x : Option Asking) → or_rest x (asked_last q to) ≡ None → x ≡ None
    by None g = refl
    by (Some b) g = absurd (let bad : Some b ≡ None = g in cc)

silent_after : (v : Vat) (w : World) (told : Effects) (t : State) → HoldsIn Stand (after w v told t) → (q : ℕ) → HasReturn q (inbox w v) → asked_last q told.sends ≡ None
silent_after A w told t k q r = fewer q w.b.inbox told.sends (none_asked A (after w A told t) k q r)
silent_after B w told t k q r = fewer q w.a.inbox told.sends (none_asked B (after w B told t) k q r)

silent_taken : (v : Vat) (w : World) (ms : List Message) (told : Effects) (t : State) → HoldsIn Stand (after (put_inbox w v ms) v told t) → (q : ℕ) → HasReturn q ms → asked_last q told.sends ≡ None
silent_taken A w ms told t k q r = fewer q w.b.inbox told.sends (none_asked A (after (put_inbox w A ms) A told t) k q r)
silent_taken B w ms told t k q r = fewer q w.a.inbox told.sends (none_asked B (after (put_inbox w B ms) B told t) k q r)

wanted_was : (W : Type 0) (o : Option Question) → Waits W o → IsWanted o → W
wanted_was W None i w = absurd i
wanted_was W (Some x) i w = i.1 w.1

-- A call that broke in the step is over.
fewer_now : (z : Stamp) (x : Scene) (v : Vat) (told : Effects) (t : State) (own : List JournalEntry) → Fewer z 0 x → deliveries_of z own ≡ 0 → Leaves z t told + 1 ≤ waiting z (core x.world v) + times_made z own → Gone (scenes.goes_on x (after x.world v told t) (own ++ effect_entries v told)) z
fewer_now z x v told t own p n l = let q = commanded z 1 0 x v told t own p n l in omega arith

fewer_then : (z : Stamp) (x : Scene) (v : Vat) (m : Message) (ms : List Message) (told : Effects) (t : State) → Fewer z 0 x → inbox x.world v ≡ m ∷ ms → Leaves z t told + 1 ≤ waiting z (core x.world v) + in_message z m
    → Gone (scenes.goes_on x (after (put_inbox x.world v ms) v told t) (entry.Got v ∷ [] ++ effect_entries v told)) z
fewer_then z x v m ms told t p e l = let q = received z 1 0 x v m ms told t p e l in omega arith

-- ---- Scenes

module _ (law : EachHasOneSource) (sessions : InScenes (HoldsIn Stand)) (oldest : InScenes OldestAreMet) (a b : Option ObjectId) where
  abbrev Good : Scene → Type 0
  Good x = Say (Gone x) x.journal A x.world.b.core.questions x.world.b.inbox × Say (Gone x) x.journal B x.world.a.core.questions x.world.a.inbox × EachAfter IfSo [] x.journal

  from_me : (v : Vat) (x : Scene) → Good x → Say (Gone x) x.journal v (core x.world (other_vat v)).questions (inbox x.world (other_vat v))
  from_me A x k = k.0
  from_me B x k = k.1

  to_me : (v : Vat) (x : Scene) → Good x → Say (Gone x) x.journal (other_vat v) (core x.world v).questions (inbox x.world v)
  to_me A x k = k.1
  to_me B x k = k.0

  abbrev Moves : (Stamp → Type 0) → Vat → Scene → List Message → Effects → State → List JournalEntry → Type 0
  Moves K v x rest told t es =
      Say K (x.journal ++ es) v (core x.world (other_vat v)).questions (inbox x.world (other_vat v) ++ told.sends) × Say K (x.journal ++ es) (other_vat v) t.questions rest × EachAfter IfSo [] (x.journal ++ es)

  went_on : (v : Vat) (x : Scene) (told : Effects) (t : State) (es : List JournalEntry) → Moves (Gone (scenes.goes_on x (after x.world v told t) es)) v x (inbox x.world v) told t es → Good (scenes.goes_on x (after x.world v told t) es)
  went_on A x told t es m = (m.0, m.1, m.2)
  went_on B x told t es m = (m.1, m.0, m.2)

  took : (v : Vat) (x : Scene) (ms : List Message) (told : Effects) (t : State) (es : List JournalEntry) → Moves (Gone (scenes.goes_on x (after (put_inbox x.world v ms) v told t) es)) v x ms told t es → Good (scenes.goes_on x (after (put_inbox x.world v ms) v told t) es)
  took A x ms told t es m = (m.0, m.1, m.2)
  took B x ms told t es m = (m.1, m.0, m.2)

  abbrev Left : (Stamp → Type 0) → List JournalEntry → Vat → Map Question → State → Effects → Type 0
  Left K h v qs t x = walk.Leaves (asked_of h v) (last_asked h v) (DeliveredIn h v) (For K h) (Unwanted qs) K (broke K h) t x

  moves : (K : Stamp → Type 0) (v : Vat) (x : Scene) (rest : List Message) (told : Effects) (t : State) (own : List JournalEntry) → ((u : Vat) (q : ℕ) → last_asked own u q ≡ None) → EachAfter IfSo x.journal own → Good x → ((z : Stamp) → Gone x z → K z) → NoneOf K (x.journal ++ (own ++ effect_entries v told))
      → Say (Gone x) x.journal (other_vat v) (core x.world v).questions rest → ((q : ℕ) → HasReturn q rest → (asked_last q told.sends ≡ None) × Waits (IsWanted (map.get (core x.world v).questions q)) (map.get t.questions q))
      → Left K (x.journal ++ own) v (core x.world (other_vat v)).questions t told → Moves K v x rest told t (own ++ effect_entries v told)
  moves K v x rest told t own n f k over o old r left =
      let h = x.journal in
      let eff = effect_entries v told in
      let es = own ++ eff in
      let u = other_vat v in
      let qs = (core x.world u).questions in
      let none : (q : ℕ) → last_asked es u q ≡ None = λ q. es_none own v told q (n u q) in
      let none_eff : (q : ℕ) → last_asked eff u q ≡ None = λ q. es_none [] v told q refl in
      let kept = say_more (Gone x) K over h es v qs qs (inbox x.world u) (λ q y. (λ w. w, none q)) (from_me v x k) in
      let sent = subst (λ (l : List JournalEntry). Say K l v qs told.sends) (append_assoc h own eff) (say_more K K (λ z p. p) (h ++ own) eff v qs qs told.sends (λ q y. (λ w. w, none_eff q)) left.1) in
      let asks : (q : ℕ) → asked_last q told.sends ≡ None → last_asked es (other_vat u) q ≡ None =
      λ q e. subst (λ (w : Vat). last_asked es w q ≡ None) (sym (twice v)) (es_asks own v told q (n v q) ∙ e)
      in
      let mine = say_more (Gone x) K over h es u (core x.world v).questions t.questions rest (λ q y. let z = r q y in (λ no_more w. no_more (wanted_was (IsWanted (map.get (core x.world v).questions q)) (map.get t.questions q) z.1 w), asks q z.0)) old in
      (say-append K (h ++ es) v qs (inbox x.world u) told.sends kept sent, mine, each-append IfSo [] h es k.2 (each-append IfSo h own eff f (effects_fine K v (h ++ own) qs told (subst (NoneOf K) (sym (append_assoc h own eff)) o) left.2)))

  -- What a vat stops with.
  stopped : (v : Vat) (x : Scene) (es : List JournalEntry) → ((z : Stamp) → Gone x z → Gone (scenes.stopped x v es) z) → ((u : Vat) (q : ℕ) → last_asked es u q ≡ None) → EachAfter IfSo x.journal es → Good x → Good (scenes.stopped x v es)
  stopped A x es g n f k = (say_more (Gone x) (Gone (scenes.stopped x A es)) g x.journal es A x.world.b.core.questions x.world.b.core.questions x.world.b.inbox (λ q y. (λ w. w, n B q)) k.0, say_more (Gone x) (Gone (scenes.stopped x A es)) g x.journal es B x.world.a.core.questions x.world.a.core.questions x.world.a.inbox (λ q y. (λ w. w, n A q)) k.1, each-append IfSo [] x.journal es k.2 f)
  stopped B x es g n f k = (say_more (Gone x) (Gone (scenes.stopped x B es)) g x.journal es A x.world.b.core.questions x.world.b.core.questions x.world.b.inbox (λ q y. (λ w. w, n B q)) k.0, say_more (Gone x) (Gone (scenes.stopped x B es)) g x.journal es B x.world.a.core.questions x.world.a.core.questions x.world.a.inbox (λ q y. (λ w. w, n A q)) k.1, each-append IfSo [] x.journal es k.2 f)

  all_answers : (K : Stamp → Type 0) (h : List JournalEntry) (v : Vat) (x : Scene) → IsScene a b x → whose.Answers (asked_of h v) (last_asked h v) (DeliveredIn h v) (For K h) (Unwanted (core x.world (other_vat v)).questions) K (broke K h) (core x.world v).answers
  all_answers K h v x i q = by (map.get (core x.world v).answers q) refl
    where
      by : (o : Option AnswerEntry) → map.get (core x.world v).answers q ≡ o → whose.AnswerIs (asked_of h v) (last_asked h v) (DeliveredIn h v) (For K h) (Unwanted (core x.world (other_vat v)).questions) K (broke K h) q o
      by None e = tt
      by (Some y) e = λ f. is_unwanted v x.world (sessions a b x i) q y e f

  abbrev Begins : (Stamp → Type 0) → List JournalEntry → Vat → Scene → Type 0
  Begins K h v x = walk.Begins (asked_of h v) (last_asked h v) (DeliveredIn h v) (For K h) (Unwanted (core x.world (other_vat v)).questions) K (broke K h) (core x.world v)

  begun : (K : Stamp → Type 0) (v : Vat) (x : Scene) (own : List JournalEntry) → IsScene a b x → ((u : Vat) (q : ℕ) → last_asked own u q ≡ None) → Begins K (x.journal ++ own) v x
  begun K v x own i n =
      let h = x.journal ++ own in
      (begins_so h v (core x.world v) (quiet_mine x.journal own v (core x.world v) n (mine_in law sessions a b v x i).0), all_answers K h v x i, no_source law sessions a b v x i)

  -- One delivery of each call.
  delivered_one : (v : Vat) (x : Scene) (c : Command) (g : Granted) (z : Stamp) → IsScene a b x → deliveries_of z (x.journal ++ granted_entries x.journal v c g) ≤ 1
  delivered_one v x c g z i =
      let e = entries-append z x.journal (granted_entries x.journal v c g) in
      let f = own_none z x.journal v c g in
      let p = at_one_place a b x i z in
      omega arith

  -- ---- What a message brings

  module _ (v : Vat) (x : Scene) (i : IsScene a b x) (k : Good x) (m : Message) (ms : List Message) (j : inbox x.world v ≡ m ∷ ms) where
    not_echo : (p : PlainMessage) → ¬ (m ≡ message.Unimplemented p)
    not_echo p e = let z = oldest a b x i v m ms j in let w : message.Plain z.0 ≡ message.Unimplemented p = sym z.1 ∙ e in absurd (let y = w in cc)

    -- It brings nothing for a question whose Return is behind.
    free : (q : ℕ) → HasReturn q ms → (y : Back) → Brings (core x.world v) m y → ¬ (y.question ≡ q)
    free q r y (heard.ByReturn z e f) g =
        let same : z.answer.0 ≡ q = ap (λ (w : Back). w.question) (sym f) ∙ g in
        only_return v x.world m ms (sessions a b x i) j q (subst (IsReturn q) (sym e) same) r
    free q r y (heard.ByEchoedRoot p e f) g = absurd (not_echo (plain.Bootstrap p) e)
    free q r y (heard.ByEchoedCall c e f) g = absurd (not_echo (plain.Call c) e)

    module _ (K : Stamp → Type 0) (over : (z : Stamp) → Gone x z → K z) (own : List JournalEntry) (n : (u : Vat) (q : ℕ) → last_asked own u q ≡ None) where
      abbrev h : List JournalEntry
      h = x.journal ++ own

      abbrev IsFor : Asking → Back → Type 0
      IsFor y z = whose.IsFor (asked_of h v) (last_asked h v) (DeliveredIn h v) (For K h) (Unwanted (core x.world (other_vat v)).questions) K (broke K h) y (value_of_results z.said)

      first_one : SayOne (Gone x) x.journal (other_vat v) (core x.world v).questions m
      first_one = (subst (Say (Gone x) x.journal (other_vat v) (core x.world v).questions) j (to_me v x k)).0

      by_return : (r : Return) (y : Question) (e : Asking) → m ≡ message.Plain (plain.Return r) → map.get (core x.world v).questions r.answer.0 ≡ Some y → y.returned ≡ None → IsNotSent y.finish → last_asked (x.journal ++ own) v r.answer.0 ≡ Some e
          → IsFor e (returning (core x.world v) r)
      by_return r y e f g l w z = by (subst (SayOne (Gone x) x.journal (other_vat v) (core x.world v).questions) f first_one)
        where
          by : SaysIt (Gone x) x.journal (other_vat v) (core x.world v).questions r.answer.0 r.body → IsFor e (returning (core x.world v) r)
          by (inl never) = absurd (never (subst IsWanted (sym g) (l, w)))
          by (inr o) =
              let asked_now : last_asked x.journal v r.answer.0 ≡ Some o.0 = subst (λ (u : Vat). last_asked x.journal u r.answer.0 ≡ Some o.0) (twice v) o.1 in
              let later : last_asked (x.journal ++ own) v r.answer.0 ≡ Some o.0 = same_last x.journal own v r.answer.0 o.0 (n v r.answer.0) asked_now in
              let same : o.0 ≡ e = let q : Some o.0 ≡ Some e = sym later ∙ z in cc in
              subst (λ (u : Asking). IsFor u (returning (core x.world v) r)) same (still_so (Gone x) K over x.journal own o.0 _ _ (o.2 (core x.world v)))

      says : (y : Back) (z : Question) (e : Asking) → Brings (core x.world v) m y → map.get (core x.world v).questions y.question ≡ Some z → z.returned ≡ None → IsNotSent z.finish → last_asked (x.journal ++ own) v y.question ≡ Some e → IsFor e y
      says y z e (heard.ByReturn r f g) get l w o =
          subst (IsFor e) (sym g)
          (by_return r z e f (subst (λ (u : Back). map.get (core x.world v).questions u.question ≡ Some z) g get) l w (subst (λ (u : Back). last_asked (x.journal ++ own) v u.question ≡ Some e) g o))
      says y z e (heard.ByEchoedRoot p f g) get l w o = absurd (not_echo (plain.Bootstrap p) f)
      says y z e (heard.ByEchoedCall c f g) get l w o = absurd (not_echo (plain.Call c) f)

  -- What is over was not delivered.
  none_gone : (x : Scene) → IsScene a b x → NoneOf (Gone x) x.journal
  none_gone x i z g = let l = made_at_most_once a b x i z in omega arith

  stepped : (x mid : Scene) → IsScene a b x → scenes.Steps x mid → Good x → Good mid
  stepped x mid i (scenes.Commanded v c g told s o up r d w e) k =
      let h = x.journal in
      let own = granted_entries h v c g in
      let t = core x.world v in
      let u = other_vat v in
      let qs = (core x.world u).questions in
      let n : (u : Vat) (q : ℕ) → last_asked own u q ≡ None = λ u q. of_own u q v h c g in
      let later = (numbers_asked a b x i v).later t.next_call (omega arith) in
      let new : Scene = scenes.goes_on x (after x.world v told s) (own ++ effect_entries v told) in
      let K : Stamp → Type 0 = Gone new in
      let goes : (z : Stamp) → Gone x z → K z = λ z p. subst (λ (y : Scene). Gone y z) e (placing.stepped z 1 x mid (λ y. scenes_count a b x i y) (scenes.Commanded v c g told s o up r d w e) p) in
      let here : IsScene a b new = subst (IsScene a b) e (leads_more x mid (begins a b) i (scenes.Commanded v c g told s o up r d w e)) in
      let acts = does t c g told s d in
      let now : walk.Commanded (asked_of (h ++ own) v) (last_asked (h ++ own) v) (DeliveredIn (h ++ own) v) (For K (h ++ own)) (Unwanted qs) K (broke K (h ++ own)) t c g = record {
        root = λ y z. root_asked h v t c g later y z;
        call = λ y z f j l. call_asked h v t c g later (scenes_count a b x i v) y z f j l;
        answers = λ y p rs z l f q j.
            let same : own ≡ entry.Answered v y (outcome.Results p) rs ∷ [] = ap (λ (m : Command). granted_entries h v m g) f in
            let got = answered h own v y z (outcome.Results p) rs same j (delivered_one v x c g z i) (tasks_open a b x i v o y.0 l q).1 in
            inl (got.0, got.1, got.2, heads_length t rs ∙ got.3);
        fails = λ y p z l f q j.
            let same : own ≡ entry.Answered v y (outcome.Exception p) [] ∷ [] = ap (λ (m : Command). granted_entries h v m g) f in
            inl (answered h own v y z (outcome.Exception p) [] same j (delivered_one v x c g z i) (tasks_open a b x i v o y.0 l q).1);
      } in
      let left = walk.commands (asked_of (h ++ own) v) (last_asked (h ++ own) v) (DeliveredIn (h ++ own) v) (For K (h ++ own)) (Unwanted qs) K (broke K (h ++ own)) t c g told s now (begun K v x own i n) acts (over.commands (asked_of (h ++ own) v) (last_asked (h ++ own) v) (DeliveredIn (h ++ own) v) (For K (h ++ own)) (Unwanted qs) K (broke K (h ++ own)) h v t c g told s (scenes_count a b x i v) (λ z l. fewer_now z x v told s own (at_most a b x i z) (own_none z h v c g) l) acts) in
      let next : HoldsIn Stand (after x.world v told s) = sessions a b new here in
      let returns : (q : ℕ) → HasReturn q (inbox x.world v) → (asked_last q told.sends ≡ None) × Waits (IsWanted (map.get t.questions q)) (map.get s.questions q) =
      λ q y. (silent_after v x.world told s next q y, awaited.commands q (IsWanted (map.get t.questions q)) t (it_waits v x.world (sessions a b x i) q y) c g told s d)
      in
      rw e (went_on v x told s (own ++ effect_entries v told) (moves K v x (inbox x.world v) told s own n (granted_always IfSo no_end v h h c g) k goes (none_gone new here) (to_me v x k) returns left))
  stepped x mid i (scenes.Received v m ms told s o up j f d w e) k =
      let h = x.journal in
      let own = entry.Got v ∷ [] in
      let t = core x.world v in
      let u = other_vat v in
      let qs = (core x.world u).questions in
      let n : (u : Vat) (q : ℕ) → last_asked own u q ≡ None = λ u q. refl in
      let stands = sessions a b x i in
      let asked_now : (q : ℕ) (y : Asking) → asked_in q m ≡ Some y → last_asked (h ++ own) (other_vat v) q ≡ Some y =
      λ q y z. same_last h own (other_vat v) q y refl (first_last h (other_vat v) v x.world m ms stands j (mine_in law sessions a b v x i).1 q y z)
      in
      let new : Scene = scenes.goes_on x (after (put_inbox x.world v ms) v told s) (own ++ effect_entries v told) in
      let K : Stamp → Type 0 = Gone new in
      let goes : (z : Stamp) → Gone x z → K z = λ z p0. subst (λ (y : Scene). Gone y z) e (placing.stepped z 1 x mid (λ y. scenes_count a b x i y) (scenes.Received v m ms told s o up j f d w e) p0) in
      let here : IsScene a b new = subst (IsScene a b) e (leads_more x mid (begins a b) i (scenes.Received v m ms told s o up j f d w e)) in
      let acts = handles t m told s f d in
      let now : walk.Hears (asked_of (h ++ own) v) (last_asked (h ++ own) v) (DeliveredIn (h ++ own) v) (For K (h ++ own)) (Unwanted qs) K (broke K (h ++ own)) t m = record {
        root = λ q z. asked_now q.0 OfBootstrap (asks_root q m z);
        roots = tt;
        call = λ c z. asked_now c.question.0 (OfCall c.stamp) (asks_call c m z);
        says = λ y z l p q p0 p1 p2. says v x i k m ms j K goes own n y z l p q p0 p1 p2;
        finish = λ y z l p q. fin_unwanted v x.world y ms stands (j ∙ ap (λ (p0 : Message). p0 ∷ ms) l) z p q;
      } in
      let left = walk.messages (asked_of (h ++ own) v) (last_asked (h ++ own) v) (DeliveredIn (h ++ own) v) (For K (h ++ own)) (Unwanted qs) K (broke K (h ++ own)) t m told s now (begun K v x own i n) acts (over.messages (asked_of (h ++ own) v) (last_asked (h ++ own) v) (DeliveredIn (h ++ own) v) (For K (h ++ own)) (Unwanted qs) K (broke K (h ++ own)) t m told s (λ z l. fewer_then z x v m ms told s (at_most a b x i z) j l) acts) in
      let next : HoldsIn Stand (after (put_inbox x.world v ms) v told s) = sessions a b new here in
      let returns : (q : ℕ) → HasReturn q ms → (asked_last q told.sends ≡ None) × Waits (IsWanted (map.get t.questions q)) (map.get s.questions q) =
      λ q y. (silent_taken v x.world ms told s next q y, awaited.messages q (IsWanted (map.get t.questions q)) t (it_waits v x.world stands q (subst (HasReturn q) (sym j) (inr y))) m told s f (free v x i k m ms j q y) d)
      in
      rw e (took v x ms told s (own ++ effect_entries v told) (moves K v x ms told s own n (tt, tt) k goes (none_gone new here) (subst (Say (Gone x) h u t.questions) j (to_me v x k)).1 returns left))
  stepped x mid i (scenes.GivesUp v c o r f e) k = rw e (stopped v x (granted_entries x.journal v c granted.Done) (λ z p. subst (λ (y : Scene). Gone y z) e (placing.stepped z 1 x mid (λ y. scenes_count a b x i y) (scenes.GivesUp v c o r f e) p)) (λ u q. of_own u q v x.journal c granted.Done) (granted_always IfSo no_end v x.journal x.journal c granted.Done) k)
  stepped x mid i (scenes.Stops v o e) k = rw e (stopped v x [] (λ z p. subst (λ (y : Scene). Gone y z) e (placing.stepped z 1 x mid (λ y. scenes_count a b x i y) (scenes.Stops v o e) p)) (λ u q. refl) tt k)

  good : (x : Scene) → IsScene a b x → Good x
  good x k = in_each a b Good stepped (tt, tt, tt) x k

  as_said : (h : List JournalEntry) (e : JournalEntry) → IfSo h e → IfCallEnds (history a b h) e
  as_said h (entry.Ended v x) f = f
  as_said h e f = tt

  pub ends_in : (x : Scene) → IsScene a b x → Upto IfCallEnds (history a b x.journal)
  ends_in x k before behind e f = as_said before e (upto IfSo [] x.journal before behind e (good x k).2 f)

pub calls_end : EachHasOneSource → InScenes (HoldsIn Stand) → InScenes OldestAreMet → CallsEndAsAnswered
calls_end law sessions oldest a b x k = ends_in law sessions oldest a b x k
