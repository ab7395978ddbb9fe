-- Each act gives numbers that are new to the vat; so in each scene a reference is given once.
use Rattle.std.proofs.Common.{◌≡◌, inl, inr, ℕ, ◌+◌, ◌≤◌, Bool, true, false, cond, ◌&&◌, nat_eq, Option, None, List, [], ◌∷◌, ◌++◌, length, refl, sym, ap, subst, ◌∙◌, arith}
use Rattle.rpc_msg.specs.declared.ids.Vat.{Vat}
use Rattle.rpc_msg.specs.declared.ids.Vat.TheVariants.{A, B}
use Rattle.rpc_msg.specs.declared.ids.ObjectId.{ObjectId}
use Rattle.rpc_msg.specs.declared.message.Message.{Message}
use Rattle.rpc_msg.specs.Vats.{other_vat}
use Rattle.rpc_journal.specs.declared.entry.JournalEntry.{JournalEntry}
use Rattle.rpc_journal.specs.declared.entry.JournalEntry.TheVariants as entry
use Rattle.rpc_journal.specs.History.{same_vat}
use Rattle.rpc_machine.specs.declared.node.Node.{Node}
use Rattle.rpc_machine.specs.declared.command.Command.{Command}
use Rattle.rpc_machine.specs.declared.command.Command.TheVariants as command
use Rattle.rpc_machine.specs.declared.command.Granted.{Granted}
use Rattle.rpc_machine.specs.declared.command.Granted.TheVariants as granted
use Rattle.rpc_machine.specs.declared.command.Effects.{Effects}
use Rattle.rpc_machine.specs.State.{State}
use Rattle.rpc_machine.specs.Progress.{with_refs, new_refs, outcome_of, caps_of}
use Rattle.rpc_machine.specs.Faults.{fault_of}
use Rattle.rpc_machine.specs.Steps.{Does, Handles, MayFall}
use Rattle.rpc_machine.specs.World.{World, core, put_inbox, after}
use Rattle.rpc_machine.specs.Journal.{effect_entries, granted_entries}
use Rattle.rpc_machine.specs.Claims.{history}
use Rattle.laws_acts.specs.Moments.{Moment, beginning}
use Rattle.laws_acts.specs.FirstActs.{Starts}
use Rattle.laws_acts.specs.FirstActs as first
use Rattle.laws_acts.specs.MessageActs.{Consumes}
use Rattle.laws_acts.specs.MessageActs as message
use Rattle.laws_acts.specs.SmallActs.{Act}
use Rattle.laws_acts.specs.SmallActs as act
use Rattle.laws_acts.proofs.EachStep.{done, handled, at_end}
use Rattle.laws_runs.specs.Scenes as scenes
use Rattle.laws_runs.specs.Scenes.{Scene, IsScene, begins}
use Rattle.laws_runs.proofs.Reading as reading
use Rattle.laws_meanings.specs.NewReferences.{IfGives, GivenAreNew}
use Rattle.laws_meanings.proofs.Walked.{in_each}
use Rattle.laws_meanings.proofs.Given.{one, times, given, given_one, in_deliveries, in_ends, given-append, deliveries-append, ends-append, given_effects, OnceFrom, in_new_refs, are_new}

next_after : (s : State) (ns : List Node) → (with_refs s ns).next_ref ≡ s.next_ref + length ns
next_after s [] = omega arith
next_after s (n ∷ ns) = let e = next_after (record s { refs = (with_refs s (n ∷ [])).refs; next_ref = s.next_ref + 1 }) ns in omega arith

-- What is given so far: these from before, and by the deliveries and ends.
abbrev total : (ℕ → ℕ) → Effects → ℕ → ℕ
total own x k = own k + (in_deliveries k x.deliveries + in_ends k x.answers)

abbrev Fresh : ℕ → (ℕ → ℕ) → Moment → Type 0
Fresh start own d = (start ≤ d.state.next_ref) × ((k : ℕ) → OnceFrom start d.state.next_ref k (total own d.effects k))

-- More of them, from the next number on.
pub more : (start next after : ℕ) (k m n t : ℕ) → start ≤ next → next ≤ after → OnceFrom start next k m → OnceFrom next after k n → t ≡ m + n → OnceFrom start after k t
more start next after k m n t l r (inl a) (inl b) e = inl (omega arith)
more start next after k m n t l r (inl a) (inr b) e = let c = b.0 in let d = b.1 in let f = b.2 in inr (omega arith, omega arith, omega arith)
more start next after k m n t l r (inr a) (inl b) e = let c = a.0 in let d = a.1 in let f = a.2 in inr (omega arith, omega arith, omega arith)
more start next after k m n t l r (inr a) (inr b) e = let c = a.2 in let d = b.1 in absurd (omega arith)

module _ (start : ℕ) (own : ℕ → ℕ) where
  acted : (d new : Moment) → Fresh start own d → Act d new → Fresh start own new
  acted d new i (act.Delivers c n rest u e f h) =
      let l = next_after d.state c.request.caps in
      let s = i.0 in
      rw h (
        omega arith,
        λ k. more start d.state.next_ref _ k (total own d.effects k) (times k (new_refs d.state.next_ref c.request.caps)) _ s (omega arith) (i.1 k)
            (subst (λ (m : ℕ). OnceFrom d.state.next_ref m k (times k (new_refs d.state.next_ref c.request.caps))) (sym l) (in_new_refs d.state.next_ref c.request.caps k))
            (let a = deliveries-append k d.effects.deliveries (act.delivery d.state c u ∷ []) in omega arith),
      )
  acted d new i (act.Reports c v from e f h) =
      let l = next_after d.state (caps_of v) in
      let s = i.0 in
      rw h (
        omega arith,
        λ k. more start d.state.next_ref _ k (total own d.effects k) (times k (new_refs d.state.next_ref (caps_of v))) _ s (omega arith) (i.1 k)
            (subst (λ (m : ℕ). OnceFrom d.state.next_ref m k (times k (new_refs d.state.next_ref (caps_of v)))) (sym l) (in_new_refs d.state.next_ref (caps_of v) k))
            (let a = ends-append k d.effects.answers (record { call = record { 0 = c }; outcome = outcome_of v; refs = new_refs d.state.next_ref (caps_of v) } ∷ []) in omega arith),
      )
  acted d new i (act.Waits c n rest p calls e f j h) = rw h i
  acted d new i (act.Holds c n rest u path x e f j h) = rw h i
  acted d new i (act.Relays c n rest q t ds es e f j k h) = rw h i
  acted d new i (act.Breaks c n rest reason e f h) = rw h i
  acted d new i (act.NextArisen u v rest e f h) = rw h i
  acted d new i (act.Knows u v fit x ps e f j k h) = rw h i
  acted d new i (act.TellsNobody c v e f h) = rw h i
  acted d new i (act.MakesReturn q v x b ds es e f j k h) = rw h i
  acted d new i (act.SendsReturn x y e f j h) = rw h i
  acted d new i (act.Clears x e f h) = rw h i
  acted d new i (act.Lists x e h) = rw h i
  acted d new i (act.SendsResolve x rest k es e w f h) = rw h i
  acted d new i (act.SendsBroken x rest reason e f h) = rw h i
  acted d new i (act.PromiseGoes p to w e f h) = rw h i
  acted d new i (act.OutcomeGoes u x v w e f j k l h) = rw h i
  acted d new i (act.ImportGoes k x w e f h) = rw h i
  acted d new i (act.Sweeps over e f j h) = rw h i
  acted d new i (act.SendsFinish q x rest e f j k l h) = rw h i
  acted d new i (act.Closes q x rest e f j k l h) = rw h i
  acted d new i (act.Releases w e f h) = rw h i

-- ---- The first act

none_yet : (start next k : ℕ) → OnceFrom start next k (0 + (0 + 0))
none_yet start next k = inl refl

pub the_next : (n k : ℕ) → OnceFrom n (n + 1) k (one (nat_eq k n) + 0 + (0 + 0))
the_next n k = by (nat_eq k n) refl
  where
    by : (b : Bool) → nat_eq k n ≡ b → OnceFrom n (n + 1) k (one b + 0 + (0 + 0))
    by true e = let i : k ≡ n = grind arith in inr (refl, omega arith, omega arith)
    by false e = inl refl

module _ (h : List JournalEntry) (v : Vat) where
  abbrev own_of : Command → Granted → ℕ → ℕ
  own_of c g k = given v k (granted_entries h v c g)

  started : (s : State) (c : Command) (g : Granted) (new : Moment) → Starts (beginning s) c g new → Fresh s.next_ref (own_of c g) new
  started s c g new (first.Hosts o e a u) = rw (e, a, u) (omega arith, λ k. subst (λ (b : Bool). OnceFrom s.next_ref (s.next_ref + 1) k (one (b && nat_eq k s.next_ref) + 0 + (0 + 0))) (sym (reading.itself v)) (the_next s.next_ref k))
  started s c g new (first.Clones y x e f a u) = rw (e, a, u) (omega arith, λ k. subst (λ (b : Bool). OnceFrom s.next_ref (s.next_ref + 1) k (one (b && nat_eq k s.next_ref) + 0 + (0 + 0))) (sym (reading.itself v)) (the_next s.next_ref k))
  started s c g new (first.NamesField y path from e f a u) = rw (e, a, u) (omega arith, λ k. subst (λ (b : Bool). OnceFrom s.next_ref (s.next_ref + 1) k (one (b && nat_eq k s.next_ref) + 0 + (0 + 0))) (sym (reading.itself v)) (the_next s.next_ref k))
  started s c g new (first.Promises p e f a u) = rw (e, a, u) (omega arith, λ k. subst (λ (b : Bool). OnceFrom s.next_ref (s.next_ref + 1) k (one (b && nat_eq k s.next_ref) + 0 + (0 + 0))) (sym (reading.itself v)) (the_next s.next_ref k))
  started s c g new (first.Drops y x e f a u) = rw (e, u) (omega arith, λ k. inl refl)
  started s c g new (first.AsksRoot q e f a u) = rw (e, a, u) (omega arith, λ k. inl refl)
  started s c g new (first.CallsOut y x q t ds es e f j l m n a u) = rw (e, a, u) (omega arith, λ k. inl refl)
  started s c g new (first.CallsHere y x o e f j l m a u) = rw (e, a, u) (omega arith, λ k. inl refl)
  started s c g new (first.CallsLater y x o z b e f j l m a u) = rw (e, a, u) (omega arith, λ k. inl refl)
  started s c g new (first.Fixes p y x key calls e f j l a u) = rw (e, u) (omega arith, λ k. inl refl)
  started s c g new (first.Rejects p why key calls e f j a u) = rw (e, u) (omega arith, λ k. inl refl)
  started s c g new (first.Answers t payload refs o e f a u) = rw (e, u) (omega arith, λ k. inl refl)
  started s c g new (first.Fails t why o e f a u) = rw (e, u) (omega arith, λ k. inl refl)
  started s c g new (first.Finishes y from e f a u) = rw (e, u) (omega arith, λ k. inl refl)
  started s c g new (first.StaysPut y x e f a u) = rw (e, a, u) (omega arith, λ k. inl refl)
  started s c g new (first.Breaks y x reason e f j l a u) = rw (e, a, u) (omega arith, λ k. inl refl)
  started s c g new (first.Switches y x by n e f j l m o a u) = rw (e, a, u) (omega arith, λ k. inl refl)
  started s c g new (first.Turns y x by n t z e f j l m o w q a u) = rw (e, a, u) (omega arith, λ k. inl refl)

  consumed : (s : State) (m : Message) (new : Moment) → Consumes (beginning s) m new → Fresh s.next_ref (λ k. 0) new
  consumed s m new (message.OpensRoot q o e f j u) = rw u (omega arith, λ k. inl refl)
  consumed s m new (message.OpensCall c o e f j u) = rw u (omega arith, λ k. inl refl)
  consumed s m new (message.Loses b x e f j k u) = rw u (omega arith, λ k. inl refl)
  consumed s m new (message.ComesToCall b x c e f j k l u) = rw u (omega arith, λ k. inl refl)
  consumed s m new (message.ComesToRelay b x o e f j k l u) = rw u (omega arith, λ k. inl refl)
  consumed s m new (message.IsFinished x z e f j u) = rw u (omega arith, λ k. inl refl)
  consumed s m new (message.IsResolved r e u) = rw u (omega arith, λ k. inl refl)
  consumed s m new (message.IsReleased r e u) = rw u (omega arith, λ k. inl refl)
  consumed s m new (message.SendsBack t to x e f u) = rw u (omega arith, λ k. inl refl)
  consumed s m new (message.Lifts t x b e f u) = rw u (omega arith, λ k. inl refl)
  consumed s m new (message.SendsForeign p e f u) = rw u (omega arith, λ k. inl refl)
  consumed s m new (message.SendsOther n e u) = rw u (omega arith, λ k. inl refl)
  consumed s m new (message.TakesBack r e u) = rw u (omega arith, λ k. inl refl)
  consumed s m new (message.Ignores r e u) = rw u (omega arith, λ k. inl refl)

  -- ---- Steps

  abbrev Gives : State → (ℕ → ℕ) → State → Effects → Type 0
  Gives s own t x = (s.next_ref ≤ t.next_ref) × ((k : ℕ) → OnceFrom s.next_ref t.next_ref k (total own x k))

  commands : (s : State) (c : Command) (g : Granted) (x : Effects) (t : State) → Does s c g x t → Gives s (own_of c g) t x
  commands s c g x t d =
      let k = done (Fresh s.next_ref (own_of c g)) s c g x t (λ new j. started s c g new j) (acted s.next_ref (own_of c g)) d in
      at_end (Gives s (own_of c g)) k.last x t k.ends k.holds

  messages : (s : State) (m : Message) (x : Effects) (t : State) → fault_of s m ≡ None → Handles s m x t → Gives s (λ k. 0) t x
  messages s m x t f d =
      let k = handled (Fresh s.next_ref (λ k. 0)) s m x t f (λ new j. consumed s m new j) (acted s.next_ref (λ k. 0)) d in
      at_end (Gives s (λ k. 0)) k.last x t k.ends k.holds

-- ---- Scenes

-- Each number of that vat is given once at most, and is no number to come.
abbrev Once : Vat → State → List JournalEntry → Type 0
Once v s h = (k : ℕ) → OnceFrom 0 s.next_ref k (given v k h)

abbrev Both : Scene → Type 0
Both x = Once A x.world.a.core x.journal × Once B x.world.b.core x.journal

-- The vat gave these, and the other none.
abbrev Moved : Vat → World → State → List JournalEntry → Type 0
Moved v w t h = Once v t h × Once (other_vat v) (core w (other_vat v)) h

pair : (v : Vat) (x : Scene) → Both x → Moved v x.world (core x.world v) x.journal
pair A x b = (b.0, b.1)
pair B x b = (b.1, b.0)

adds : (v : Vat) (w : World) (t : State) (h own : List JournalEntry) (x : Effects) → Moved v w (core w v) h → ((k : ℕ) → given (other_vat v) k own ≡ 0) → Gives h v (core w v) (λ k. given v k own) t x → Moved v w t (h ++ (own ++ effect_entries v x))
adds v w t h own x b n g = (
  λ k.
      more 0 (core w v).next_ref t.next_ref k (given v k h) _ _ (omega arith) g.0 (b.0 k) (g.1 k)
      (let p = given-append v k h (own ++ effect_entries v x) in
      let q = given-append v k own (effect_entries v x) in
      let r = given_effects v v k x ∙ ap (λ (y : Bool). cond y (in_deliveries k x.deliveries + in_ends k x.answers) 0) (reading.itself v) in
      omega arith),
  λ k.
      subst (OnceFrom 0 (core w (other_vat v)).next_ref k)
      (let p = given-append (other_vat v) k h (own ++ effect_entries v x) in
      let q = given-append (other_vat v) k own (effect_entries v x) in
      let r = given_effects (other_vat v) v k x ∙ ap (λ (y : Bool). cond y (in_deliveries k x.deliveries + in_ends k x.answers) 0) (reading.other v) in
      let z = n k in
      omega arith)
      (b.1 k),
)

went_on : (v : Vat) (x : Scene) (told : Effects) (t : State) (es : List JournalEntry) → Moved v x.world t (x.journal ++ es) → Both (scenes.goes_on x (after x.world v told t) es)
went_on A x told t es m = (m.0, m.1)
went_on B x told t es m = (m.1, m.0)

took : (v : Vat) (x : Scene) (ms : List Message) (told : Effects) (t : State) (es : List JournalEntry) → Moved v x.world t (x.journal ++ es) → Both (scenes.goes_on x (after (put_inbox x.world v ms) v told t) es)
took A x ms told t es m = (m.0, m.1)
took B x ms told t es m = (m.1, m.0)

-- The other vat is given nothing by this one's own entries.
born_apart : (v : Vat) (k n : ℕ) → one (same_vat (other_vat v) v && nat_eq k n) + 0 ≡ 0
born_apart v k n = ap (λ (b : Bool). one (b && nat_eq k n) + 0) (reading.other v)

other_none : (h : List JournalEntry) (v : Vat) (c : Command) (g : Granted) (k : ℕ) → given (other_vat v) k (granted_entries h v c g) ≡ 0
other_none h v (command.Host o) (granted.Reference r) k = born_apart v k r.0
other_none h v (command.CloneRef q) (granted.Reference r) k = born_apart v k r.0
other_none h v (command.Field q path) (granted.Reference r) k = born_apart v k r.0
other_none h v command.Promise (granted.Promise p r) k = born_apart v k r.0
other_none h v command.Bootstrap (granted.Call q) k = refl
other_none h v (command.Call q) (granted.Call id) k = refl
other_none h v (command.Advance q) (granted.Advanced a) k = refl
other_none h v c g k = refl

-- Last words give nothing.
last_words : (h : List JournalEntry) (v : Vat) (c : Command) → MayFall c → (u : Vat) (k : ℕ) → given u k (granted_entries h v c granted.Done) ≡ 0
last_words h v (command.Resolve p r) m u k = refl
last_words h v (command.Reject p why) m u k = refl
last_words h v (command.Answer t payload refs) m u k = refl
last_words h v (command.Fail t why) m u k = refl
last_words h v c m u k = absurd m

behind_nothing : (u : Vat) (s : State) (h es : List JournalEntry) → ((k : ℕ) → given u k es ≡ 0) → Once u s h → Once u s (h ++ es)
behind_nothing u s h es z o k = subst (OnceFrom 0 s.next_ref k) (let p = given-append u k h es in let q = z k in omega arith) (o k)

gave_up : (x : Scene) (v : Vat) (es : List JournalEntry) → ((u : Vat) (k : ℕ) → given u k es ≡ 0) → Both x → Both (scenes.stopped x v es)
gave_up x A es z b = (behind_nothing A x.world.a.core x.journal es (z A) b.0, behind_nothing B x.world.b.core x.journal es (z B) b.1)
gave_up x B es z b = (behind_nothing A x.world.a.core x.journal es (z A) b.0, behind_nothing B x.world.b.core x.journal es (z B) b.1)

stepped : (x mid : Scene) → scenes.Steps x mid → Both x → Both mid
stepped x mid (scenes.Commanded v c g told s o up r d w e) b =
    let own = granted_entries x.journal v c g in
    rw e (went_on v x told s _ (adds v x.world s x.journal own told (pair v x b) (other_none x.journal v c g) (commands x.journal v (core x.world v) c g told s d)))
stepped x mid (scenes.Received v m ms told s o up i f d w e) b =
    rw e (took v x ms told s _ (adds v x.world s x.journal (entry.Got v ∷ []) told (pair v x b) (λ k. refl) (messages x.journal v (core x.world v) m told s f d)))
stepped x mid (scenes.GivesUp v c o r f e) b = rw e (gave_up x v (granted_entries x.journal v c granted.Done) (last_words x.journal v c f) b)
stepped x mid (scenes.Stops v o e) b = rw e (gave_up x v [] (λ u k. refl) b)

both : (a b : Option ObjectId) (x : Scene) → IsScene a b x → Both x
both a b x k = in_each a b Both (λ y mid s t p. stepped y mid t p) (λ k. inl refl, λ k. inl refl) x k

-- The next number was not given.
pub none_to_come : (a b : Option ObjectId) (x : Scene) → IsScene a b x → (v : Vat) → given v (core x.world v).next_ref x.journal ≡ 0
none_to_come a b x k v = by ((pair v x (both a b x k)).0 (core x.world v).next_ref)
  where
    by : OnceFrom 0 (core x.world v).next_ref (core x.world v).next_ref (given v (core x.world v).next_ref x.journal) → given v (core x.world v).next_ref x.journal ≡ 0
    by (inl e) = e
    by (inr e) = let l = e.2 in absurd (omega arith)

at_most : (k next n : ℕ) → OnceFrom 0 next k n → n ≤ 1
at_most k next n (inl e) = omega arith
at_most k next n (inr e) = let a = e.0 in omega arith

of_each : (x : Scene) → Both x → (v : Vat) (k : ℕ) → given v k x.journal ≤ 1
of_each x b A k = at_most k x.world.a.core.next_ref _ (b.0 k)
of_each x b B k = at_most k x.world.b.core.next_ref _ (b.1 k)

-- What one entry gives, and all before it.
up_to_here : (v : Vat) (h before behind : List JournalEntry) (e : JournalEntry) → ((k : ℕ) → given v k h ≤ 1) → h ≡ before ++ e ∷ behind → (k : ℕ) → given v k before + given_one v k e ≤ 1
up_to_here v h before behind e f i k =
    let a = f k in
    let b = ap (given v k) i in
    let c = given-append v k before (e ∷ behind) in
    omega arith

gives_new : (h before behind : List JournalEntry) (e : JournalEntry) (a b : Option ObjectId) → ((v : Vat) (k : ℕ) → given v k h ≤ 1) → h ≡ before ++ e ∷ behind → IfGives (history a b before) e
gives_new h before behind (entry.Delivered v d) a b f i =
    are_new v before d.refs (λ k. subst (λ (y : Bool). given v k before + cond y (times k d.refs) 0 ≤ 1) (reading.itself v) (up_to_here v h before behind (entry.Delivered v d) (f v) i k))
gives_new h before behind (entry.Ended v x) a b f i =
    are_new v before x.refs (λ k. subst (λ (y : Bool). given v k before + cond y (times k x.refs) 0 ≤ 1) (reading.itself v) (up_to_here v h before behind (entry.Ended v x) (f v) i k))
gives_new h before behind e a b f i = tt

pub given_are_new : GivenAreNew
given_are_new a b x k before behind e i = gives_new x.journal before behind e a b (of_each x (both a b x k)) i
