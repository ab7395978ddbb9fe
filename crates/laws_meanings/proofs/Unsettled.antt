-- Each act keeps that a promise has no fate, or is settled and no number to come; so in each scene.
use Rattle.std.proofs.Common.{◌≡◌, ◌⊎◌, inl, inr, ℕ, ◌+◌, ◌≤◌, ◌<◌, Bool, true, false, ◌&&◌, nat_eq, nat_lt, Option, None, Some, List, [], ◌∷◌, ◌++◌, map, append_assoc, refl, sym, ap, subst, ◌∙◌, arith}
use Rattle.std.proofs.lemmas.Bool.Decides.{nat_tests}
use Rattle.std.specs.Ordering.{nat_cmp}
use Rattle.std.specs.FinMap as finmap
use Rattle.finite_maps.specs.Tally.{Map}
use Rattle.finite_maps.proofs.Tested.{at_put, at_cut}
use Rattle.rpc_msg.specs.declared.ids.Vat.{Vat}
use Rattle.rpc_msg.specs.declared.ids.Vat.TheVariants.{A, B}
use Rattle.rpc_msg.specs.declared.ids.RefId.{RefId}
use Rattle.rpc_msg.specs.declared.ids.ObjectId.{ObjectId}
use Rattle.rpc_msg.specs.declared.message.Message.{Message}
use Rattle.rpc_msg.specs.Vats.{other_vat}
use Rattle.rpc_journal.specs.declared.report.Delivery.{Delivery}
use Rattle.rpc_journal.specs.declared.report.Ended.{Ended}
use Rattle.rpc_journal.specs.declared.entry.Origin.{Origin}
use Rattle.rpc_journal.specs.declared.entry.Origin.TheVariants as origin
use Rattle.rpc_journal.specs.declared.entry.JournalEntry.{JournalEntry}
use Rattle.rpc_journal.specs.declared.entry.JournalEntry.TheVariants as entry
use Rattle.rpc_journal.specs.History.{same_vat, or_rest, if_so}
use Rattle.rpc_journal.specs.Sources.{Fate, fate_one, fate}
use Rattle.rpc_machine.specs.declared.command.CallCommand.{CallCommand}
use Rattle.rpc_machine.specs.declared.command.Command.{Command}
use Rattle.rpc_machine.specs.declared.command.Command.TheVariants as command
use Rattle.rpc_machine.specs.declared.command.Granted.{Granted}
use Rattle.rpc_machine.specs.declared.command.Granted.TheVariants as granted
use Rattle.rpc_machine.specs.declared.command.Level.TheVariants.{One}
use Rattle.rpc_machine.specs.declared.command.Effects.{Effects}
use Rattle.rpc_machine.specs.State.{State, start}
use Rattle.rpc_machine.specs.Faults.{fault_of}
use Rattle.rpc_machine.specs.Steps.{Does, Handles}
use Rattle.rpc_machine.specs.World.{core, put_inbox, after}
use Rattle.rpc_machine.specs.Journal.{went_down, effect_entries, born, born_promise, asked_entries, made_entries, advanced_entries, granted_entries}
use Rattle.laws_acts.specs.Moments.{Moment, beginning}
use Rattle.laws_acts.specs.FirstActs.{Starts}
use Rattle.laws_acts.specs.FirstActs as first
use Rattle.laws_acts.specs.MessageActs.{Consumes}
use Rattle.laws_acts.specs.MessageActs as message
use Rattle.laws_acts.specs.SmallActs.{Act}
use Rattle.laws_acts.specs.SmallActs as act
use Rattle.laws_acts.proofs.EachStep.{done, handled, at_end}
use Rattle.laws_runs.specs.Scenes as scenes
use Rattle.laws_runs.specs.Scenes.{Scene, IsScene, begins, is_over}
use Rattle.laws_runs.proofs.Reading as reading
use Rattle.laws_meanings.specs.Fates.{PromisesAreOpen}
use Rattle.laws_meanings.proofs.Entries.{nothing_before}
use Rattle.laws_meanings.proofs.Walked.{in_each}

-- ---- What settles no promise

module _ (v : Vat) (k : ℕ) where
  none_after : (h es : List JournalEntry) → fate h v k ≡ None → fate es v k ≡ None → fate (h ++ es) v k ≡ None
  none_after h es e f = nothing_before (fate_one v k) h es e ∙ f

  no_sends : (u : Vat) (ms : List Message) → fate (map (entry.Sent u) ms) v k ≡ None
  no_sends u [] = refl
  no_sends u (m ∷ ms) = no_sends u ms

  no_deliveries : (u : Vat) (ds : List Delivery) → fate (map (entry.Delivered u) ds) v k ≡ None
  no_deliveries u [] = refl
  no_deliveries u (d ∷ ds) = no_deliveries u ds

  no_ends : (u : Vat) (xs : List Ended) → fate (map (entry.Ended u) xs) v k ≡ None
  no_ends u [] = refl
  no_ends u (x ∷ xs) = no_ends u xs

  none_down : (u : Vat) (o : Option ℕ) → fate (went_down u o) v k ≡ None
  none_down u None = refl
  none_down u (Some n) = refl

  no_effects : (u : Vat) (x : Effects) → fate (effect_entries u x) v k ≡ None
  no_effects u x =
      let ms = map (entry.Sent u) x.sends in
      let ds = map (entry.Delivered u) x.deliveries in
      let es = map (entry.Ended u) x.answers in
      none_after (ms ++ ds ++ es) (went_down u x.down) (none_after (ms ++ ds) es (none_after ms ds (no_sends u x.sends) (no_deliveries u x.deliveries)) (no_ends u x.answers)) (none_down u x.down)

  -- Another vat's commands.
  module _ (u : Vat) (f : same_vat v u ≡ false) where
    born_none : (o : Origin) (g : Granted) → fate (born u o g) v k ≡ None
    born_none o (granted.Reference r) = refl
    born_none o g = refl

    promise_none : (g : Granted) → fate (born_promise u g) v k ≡ None
    promise_none (granted.Promise p r) = refl
    promise_none g = refl

    asked_none : (g : Granted) → fate (asked_entries u g) v k ≡ None
    asked_none (granted.Call c) = refl
    asked_none g = refl

    call_none : (h : List JournalEntry) (c : CallCommand) (g : Granted) → fate (made_entries h u c g) v k ≡ None
    call_none h c (granted.Call id) = refl
    call_none h c g = refl

    advanced_none : (r : RefId) (g : Granted) → fate (advanced_entries u r g) v k ≡ None
    advanced_none r (granted.Advanced a) = refl
    advanced_none r g = refl

    not_mine : (a : Fate) (n : ℕ) → or_rest (if_so (same_vat v u && nat_eq k n) a) None ≡ None
    not_mine a n = rw f refl

    other_none : (h : List JournalEntry) (c : Command) (g : Granted) → fate (granted_entries h u c g) v k ≡ None
    other_none h (command.Host o) g = born_none (origin.Object o) g
    other_none h (command.CloneRef r) g = born_none (origin.Clone r) g
    other_none h (command.DropRef r) g = refl
    other_none h command.Bootstrap g = asked_none g
    other_none h (command.Call c) g = call_none h c g
    other_none h (command.Field c path) g = born_none (origin.Field c path) g
    other_none h command.Promise g = promise_none g
    other_none h (command.Resolve p r) g = not_mine _ p.0
    other_none h (command.Reject p why) g = not_mine _ p.0
    other_none h (command.Answer t payload refs) g = refl
    other_none h (command.Fail t why) g = refl
    other_none h (command.Finish c) g = refl
    other_none h (command.Advance r) g = advanced_none r g
    other_none h (command.Shut n) g = refl

-- ---- No fate, or settled

abbrev At : Option Fate → ℕ → ℕ → Option ℕ → Type 0
At f next k o = (f ≡ None) ⊎ ((o ≡ None) × (k < next))

abbrev Later : ℕ → ℕ → Option ℕ → Type 0
Later next k o = next ≤ k → o ≡ None

abbrev Kept : Vat → List JournalEntry → Map ℕ → ℕ → Type 0
Kept v h m next = ((k : ℕ) → At (fate h v k) next k (finmap.get m k)) × ((k : ℕ) → Later next k (finmap.get m k))

still : (v : Vat) (h es : List JournalEntry) (m : Map ℕ) (next : ℕ) → ((k : ℕ) → fate es v k ≡ None) → Kept v h m next → Kept v (h ++ es) m next
still v h es m next n i = (λ k. by k (i.0 k), i.1)
  where
    by : (k : ℕ) → At (fate h v k) next k (finmap.get m k) → At (fate (h ++ es) v k) next k (finmap.get m k)
    by k (inl f) = inl (nothing_before (fate_one v k) h es f ∙ n k)
    by k (inr z) = inr z

opens : (v : Vat) (h : List JournalEntry) (m : Map ℕ) (next p : ℕ) → Kept v h m next → Kept v h (finmap.insert m next p) (next + 1)
opens v h m next p i = (
  at_put (λ k o. At (fate h v k) (next + 1) k o) m next p (here (i.0 next)) (λ k e. there k (i.0 k)),
  at_put (λ k o. Later (next + 1) k o) m next p (λ l. absurd (omega arith)) (λ k e l. i.1 k (omega arith)),
)
  where
    here : At (fate h v next) next next (finmap.get m next) → At (fate h v next) (next + 1) next (Some p)
    here (inl f) = inl f
    here (inr z) = let l = z.1 in absurd (omega arith)

    there : (k : ℕ) → At (fate h v k) next k (finmap.get m k) → At (fate h v k) (next + 1) k (finmap.get m k)
    there k (inl f) = inl f
    there k (inr z) = let l = z.1 in inr (z.0, omega arith)

below : (m : Map ℕ) (next k key : ℕ) → ((j : ℕ) → Later next j (finmap.get m j)) → finmap.get m k ≡ Some key → k < next
below m next k key l e = by (nat_lt k next) refl
  where
    by : (b : Bool) → nat_lt k next ≡ b → k < next
    by true f = grind (arith, nat_tests)
    by false f = let g : next ≤ k = grind (arith, nat_tests) in let bad : None ≡ Some key = sym (l k g) ∙ e in cc

settles : (v : Vat) (h : List JournalEntry) (m : Map ℕ) (next p key : ℕ) (y : JournalEntry) (f : Fate) → ((k : ℕ) → fate_one v k y ≡ if_so (same_vat v v && nat_eq k p) f) → finmap.get m p ≡ Some key → Kept v h m next → Kept v (h ++ y ∷ []) (finmap.remove m p) next
settles v h m next p key y f says e i = (
  at_cut (λ k o. At (fate (h ++ y ∷ []) v k) next k o) m p (inr (refl, below m next p key i.1 e)) (λ k g. there k g (i.0 k)),
  at_cut (λ k o. Later next k o) m p (λ l. refl) (λ k g. i.1 k),
)
  where
    not_this : (a b : Bool) → b ≡ false → or_rest (if_so (a && b) f) None ≡ None
    not_this true b g = rw g refl
    not_this false b g = refl

    there : (k : ℕ) → nat_eq k p ≡ false → At (fate h v k) next k (finmap.get m k) → At (fate (h ++ y ∷ []) v k) next k (finmap.get m k)
    there k g (inl n) = inl (nothing_before (fate_one v k) h (y ∷ []) n ∙ ap (λ (o : Option Fate). or_rest o None) (says k) ∙ not_this (same_vat v v) (nat_eq k p) g)
    there k g (inr z) = inr z

-- ---- Acts

module _ (v : Vat) (h : List JournalEntry) where
  abbrev Fine : Moment → Type 0
  Fine d = Kept v h d.state.unsettled d.state.next_promise

  acted : (d new : Moment) → Fine d → Act d new → Fine new
  acted d new i (act.Delivers c n rest u e f k) = rw k i
  acted d new i (act.Waits c n rest p calls e f j k) = rw k i
  acted d new i (act.Holds c n rest u path x e f j k) = rw k i
  acted d new i (act.Relays c n rest q t ds es e f j k u) = rw u i
  acted d new i (act.Breaks c n rest reason e f u) = rw u i
  acted d new i (act.NextArisen o w rest e f u) = rw u i
  acted d new i (act.Knows u w fit x ps e f j k z) = rw z i
  acted d new i (act.Reports c w from e f u) = rw u i
  acted d new i (act.TellsNobody c w e f u) = rw u i
  acted d new i (act.MakesReturn q w x b ds es e f j k u) = rw u i
  acted d new i (act.SendsReturn x y e f j u) = rw u i
  acted d new i (act.Clears x e f u) = rw u i
  acted d new i (act.Lists x e u) = rw u i
  acted d new i (act.SendsResolve x rest k es e w f u) = rw u i
  acted d new i (act.SendsBroken x rest reason e f u) = rw u i
  acted d new i (act.PromiseGoes p to w e f u) = rw u i
  acted d new i (act.OutcomeGoes o x w z e f j k l u) = rw u i
  acted d new i (act.ImportGoes k x w e f u) = rw u i
  acted d new i (act.Sweeps over e f j u) = rw u i
  acted d new i (act.SendsFinish q x rest e f j k l u) = rw u i
  acted d new i (act.Closes q x rest e f j k l u) = rw u i
  acted d new i (act.Releases w e f u) = rw u i

  abbrev Starting : State → Command → Granted → Moment → Type 0
  Starting s c g new = Kept v (h ++ granted_entries h v c g) new.state.unsettled new.state.next_promise

  started : (s : State) (c : Command) (g : Granted) (new : Moment) → Kept v h s.unsettled s.next_promise → Starts (beginning s) c g new → Starting s c g new
  started s c g new i (first.Hosts o e a u) = rw (e, a, u) (still v h _ s.unsettled s.next_promise (λ k. refl) i)
  started s c g new i (first.Clones y x e f a u) = rw (e, a, u) (still v h _ s.unsettled s.next_promise (λ k. refl) i)
  started s c g new i (first.NamesField y path from e f a u) = rw (e, a, u) (still v h _ s.unsettled s.next_promise (λ k. refl) i)
  started s c g new i (first.Promises p e f a u) = rw (e, a, u) (opens v (h ++ _) s.unsettled s.next_promise p (still v h _ s.unsettled s.next_promise (λ k. refl) i))
  started s c g new i (first.Drops y x e f a u) = rw (e, u) (still v h _ s.unsettled s.next_promise (λ k. refl) i)
  started s c g new i (first.AsksRoot q e f a u) = rw (e, a, u) (still v h _ s.unsettled s.next_promise (λ k. refl) i)
  started s c g new i (first.CallsOut y x q t ds es e f j l m n a u) = rw (e, a, u) (still v h _ s.unsettled s.next_promise (λ k. refl) i)
  started s c g new i (first.CallsHere y x o e f j l m a u) = rw (e, a, u) (still v h _ s.unsettled s.next_promise (λ k. refl) i)
  started s c g new i (first.CallsLater y x o z b e f j l m a u) = rw (e, a, u) (still v h _ s.unsettled s.next_promise (λ k. refl) i)
  started s c g new i (first.Fixes p y x key calls e f j l a u) = rw (e, u) (settles v h s.unsettled s.next_promise p.0 key (entry.Resolved v p y) _ (λ k. refl) j i)
  started s c g new i (first.Rejects p why key calls e f j a u) = rw (e, u) (settles v h s.unsettled s.next_promise p.0 key (entry.Rejected v p why) _ (λ k. refl) f i)
  started s c g new i (first.Answers t payload refs o e f a u) = rw (e, u) (still v h _ s.unsettled s.next_promise (λ k. refl) i)
  started s c g new i (first.Fails t why o e f a u) = rw (e, u) (still v h _ s.unsettled s.next_promise (λ k. refl) i)
  started s c g new i (first.Finishes y from e f a u) = rw (e, u) (still v h _ s.unsettled s.next_promise (λ k. refl) i)
  started s c g new i (first.StaysPut y x e f a u) = rw (e, a, u) (still v h _ s.unsettled s.next_promise (λ k. refl) i)
  started s c g new i (first.Breaks y x reason e f j l a u) = rw (e, a, u) (still v h _ s.unsettled s.next_promise (λ k. refl) i)
  started s c g new i (first.Switches y x by n e f j l m o a u) = rw (e, a, u) (still v h _ s.unsettled s.next_promise (λ k. refl) i)
  started s c g new i (first.Turns y x by n t z e f j l m o w q a u) = rw (e, a, u) (still v h _ s.unsettled s.next_promise (λ k. refl) i)

  consumed : (s : State) (m : Message) (new : Moment) → Kept v h s.unsettled s.next_promise → Consumes (beginning s) m new → Fine new
  consumed s m new i (message.OpensRoot q o e f j u) = rw u i
  consumed s m new i (message.OpensCall c o e f j u) = rw u i
  consumed s m new i (message.Loses b x e f j k u) = rw u i
  consumed s m new i (message.ComesToCall b x c e f j k l u) = rw u i
  consumed s m new i (message.ComesToRelay b x o e f j k l u) = rw u i
  consumed s m new i (message.IsFinished x z e f j u) = rw u i
  consumed s m new i (message.IsResolved r e u) = rw u i
  consumed s m new i (message.IsReleased r e u) = rw u i
  consumed s m new i (message.SendsBack t to x e f u) = rw u i
  consumed s m new i (message.Lifts t x b e f u) = rw u i
  consumed s m new i (message.SendsForeign p e f u) = rw u i
  consumed s m new i (message.SendsOther n e u) = rw u i
  consumed s m new i (message.TakesBack r e u) = rw u i
  consumed s m new i (message.Ignores r e u) = rw u i

-- ---- Steps

abbrev Of : Vat → List JournalEntry → State → Type 0
Of v h s = Kept v h s.unsettled s.next_promise

commands : (v : Vat) (h : List JournalEntry) (s : State) (c : Command) (g : Granted) (x : Effects) (t : State) → Of v h s → Does s c g x t → Of v (h ++ granted_entries h v c g) t
commands v h s c g x t i d =
    let k = done (Fine v (h ++ granted_entries h v c g)) s c g x t (λ new j. started v h s c g new i j) (acted v (h ++ granted_entries h v c g)) d in
    at_end (λ z e. Of v (h ++ granted_entries h v c g) z) k.last x t k.ends k.holds

messages : (v : Vat) (h : List JournalEntry) (s : State) (m : Message) (x : Effects) (t : State) → fault_of s m ≡ None → Of v h s → Handles s m x t → Of v h t
messages v h s m x t f i d =
    let k = handled (Fine v h) s m x t f (λ new j. consumed v h s m new i j) (acted v h) d in
    at_end (λ z e. Of v h z) k.last x t k.ends k.holds

-- ---- Scenes

abbrev Half : Bool → Vat → List JournalEntry → State → Type 0
Half over v h s = over ≡ false → Of v h s

abbrev Good : Scene → Type 0
Good x = Half x.over_a A x.journal x.world.a.core × Half x.over_b B x.journal x.world.b.core

half : (v : Vat) (x : Scene) → Good x → Half (is_over x v) v x.journal (core x.world v)
half A x g = g.0
half B x g = g.1

longer : (v : Vat) (h es : List JournalEntry) (over : Bool) (s : State) → ((k : ℕ) → fate es v k ≡ None) → Half over v h s → Half over v (h ++ es) s
longer v h es over s n i o = still v h es s.unsettled s.next_promise n (i o)

went_on : (v : Vat) (x : Scene) (told : Effects) (t : State) (es : List JournalEntry) → Of v (x.journal ++ es) t → ((k : ℕ) → fate es (other_vat v) k ≡ None) → Good x → Good (scenes.goes_on x (after x.world v told t) es)
went_on A x told t es f n g = (λ o. f, longer B x.journal es x.over_b x.world.b.core n g.1)
went_on B x told t es f n g = (longer A x.journal es x.over_a x.world.a.core n g.0, λ o. f)

took : (v : Vat) (x : Scene) (ms : List Message) (told : Effects) (t : State) (es : List JournalEntry) → Of v (x.journal ++ es) t → ((k : ℕ) → fate es (other_vat v) k ≡ None) → Good x → Good (scenes.goes_on x (after (put_inbox x.world v ms) v told t) es)
took A x ms told t es f n g = (λ o. f, longer B x.journal es x.over_b x.world.b.core n g.1)
took B x ms told t es f n g = (longer A x.journal es x.over_a x.world.a.core n g.0, λ o. f)

-- Nothing is said of a vat that takes no more steps.
over_now : (v : Vat) (h : List JournalEntry) (s : State) → Half true v h s
over_now v h s o = absurd (let bad : true ≡ false = o in cc)

gave_up : (v : Vat) (x : Scene) (es : List JournalEntry) → ((k : ℕ) → fate es (other_vat v) k ≡ None) → Good x → Good (scenes.stopped x v es)
gave_up A x es n g = (over_now A (x.journal ++ es) x.world.a.core, longer B x.journal es x.over_b x.world.b.core n g.1)
gave_up B x es n g = (longer A x.journal es x.over_a x.world.a.core n g.0, over_now B (x.journal ++ es) x.world.b.core)

-- Its own entries, and then what its effects write.
told_too : (v : Vat) (h own : List JournalEntry) (x : Effects) (t : State) → Of v (h ++ own) t → Of v (h ++ (own ++ effect_entries v x)) t
told_too v h own x t i =
    subst (λ (l : List JournalEntry). Of v l t) (append_assoc h own (effect_entries v x)) (still v (h ++ own) (effect_entries v x) t.unsettled t.next_promise (λ k. no_effects v k v x) i)

stepped : (x mid : Scene) → scenes.Steps x mid → Good x → Good mid
stepped x mid (scenes.Commanded v c g told s o up r d w e) i =
    let own = granted_entries x.journal v c g in
    let y = commands v x.journal (core x.world v) c g told s (half v x i o) d in
    rw e (went_on v x told s (own ++ effect_entries v told) (told_too v x.journal own told s y)
    (λ k. none_after (other_vat v) k own (effect_entries v told) (other_none (other_vat v) k v (reading.other v) x.journal c g) (no_effects (other_vat v) k v told)) i)
stepped x mid (scenes.Received v m ms told s o up j f d w e) i =
    let own = entry.Got v ∷ [] in
    let before = still v x.journal own (core x.world v).unsettled (core x.world v).next_promise (λ k. refl) (half v x i o) in
    let y = messages v (x.journal ++ own) (core x.world v) m told s f before d in
    rw e (took v x ms told s (own ++ effect_entries v told) (told_too v x.journal own told s y) (λ k. no_effects (other_vat v) k v told) i)
stepped x mid (scenes.GivesUp v c o r f e) i = rw e (gave_up v x (granted_entries x.journal v c granted.Done) (λ k. other_none (other_vat v) k v (reading.other v) x.journal c granted.Done) i)
stepped x mid (scenes.Stops v o e) i = rw e (gave_up v x [] (λ k. refl) i)

none : (v : Vat) (o : Option ObjectId) → Of v [] (start v One o)
none v o = (λ k. inl refl, λ k l. finmap.get-empty nat_cmp k)

good : (a b : Option ObjectId) (x : Scene) → IsScene a b x → Good x
good a b x k = in_each a b Good (λ y mid i t p. stepped y mid t p) (λ o. none A a, λ o. none B b) x k

pub promises_open : PromisesAreOpen
promises_open a b x k v o n p e = by ((half v x (good a b x k) o).0 n)
  where
    by : At (fate x.journal v n) (core x.world v).next_promise n (finmap.get (core x.world v).unsettled n) → fate x.journal v n ≡ None
    by (inl f) = f
    by (inr z) = let bad : None ≡ Some p = sym z.0 ∙ e in cc
