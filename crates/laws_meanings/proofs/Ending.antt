-- In a scene each vat came to its core by a run of its own, and the log of that run has each end that the history has of the
-- vat. So a call ends once in each scene, since it does in each run of one vat, whatever its peer sends.
use Rattle.std.proofs.Common.{◌≡◌, ℕ, ◌+◌, ◌≤◌, Bool, true, cond, ◌&&◌, nat_eq, Option, List, [], ◌∷◌, ◌++◌, Ok, refl, ap, ◌∙◌, arith}
use Rattle.finite_maps.proofs.Tested.{itself}
use Rattle.rpc_msg.specs.declared.ids.Vat.{Vat}
use Rattle.rpc_msg.specs.declared.ids.Vat.TheVariants.{A, B}
use Rattle.rpc_msg.specs.declared.ids.ObjectId.{ObjectId}
use Rattle.rpc_msg.specs.declared.ids.RefId.{RefId}
use Rattle.rpc_msg.specs.declared.message.Message.{Message}
use Rattle.rpc_msg.specs.Vats.{other_vat}
use Rattle.rpc_journal.specs.declared.entry.Origin.{Origin}
use Rattle.rpc_journal.specs.declared.entry.Origin.TheVariants as origin
use Rattle.rpc_journal.specs.declared.entry.JournalEntry.{JournalEntry}
use Rattle.rpc_journal.specs.declared.entry.JournalEntry.TheVariants as entry
use Rattle.rpc_journal.specs.History.{same_vat}
use Rattle.rpc_machine.specs.declared.command.CallCommand.{CallCommand}
use Rattle.rpc_machine.specs.declared.command.Command.{Command}
use Rattle.rpc_machine.specs.declared.command.Command.TheVariants as command
use Rattle.rpc_machine.specs.declared.command.Granted.{Granted}
use Rattle.rpc_machine.specs.declared.command.Granted.TheVariants as granted
use Rattle.rpc_machine.specs.declared.command.Effects.{Effects}
use Rattle.rpc_machine.specs.declared.command.Level.TheVariants.{One}
use Rattle.rpc_machine.specs.State.{State, start}
use Rattle.rpc_machine.specs.Steps.{Obeys, Receives, IsDone, IsHandled}
use Rattle.rpc_machine.specs.World.{World, core, put_inbox, after}
use Rattle.rpc_machine.specs.Journal.{effect_entries, born, born_promise, asked_entries, made_entries, advanced_entries, granted_entries}
use Rattle.rpc_machine.specs.Claims.{is_end_of, history}
use Rattle.laws_nodes.specs.Ones.{one_if}
use Rattle.laws_authority.specs.Runs.{Event, DidCommand, GotMessage, RunsTo, New, Commanded, Received}
use Rattle.laws_authority.specs.Once.{ends_in, times_ended, AllAtMostOnce}
use Rattle.laws_runs.specs.Scenes as scenes
use Rattle.laws_runs.specs.Scenes.{Scene, IsScene, begins}
use Rattle.laws_runs.proofs.Reading as reading
use Rattle.laws_meanings.specs.FirstEnds.{IfFirst, EndsAreFirst}
use Rattle.laws_meanings.proofs.Walked.{in_each}
use Rattle.laws_meanings.proofs.Ends.{ended, ended-append, ended_effects, not_ended}

-- A run of the vat leads to the core, and its log has each end that the history has.
abbrev At : Vat → State → List JournalEntry → Type 0
At v s h = (log : List Event) × RunsTo s log × ((c : ℕ) → ended v c h ≡ times_ended c log)

commands : (v : Vat) (s : State) (c : Command) (g : Granted) (x : Effects) (t : State) (h : List JournalEntry) → Obeys s c (Ok g) x t → (a : At v s h) → RunsTo t (DidCommand s c x ∷ a.0)
commands v s c g x t h o a = Commanded c (Ok g) x a.1 o

messages : (v : Vat) (s : State) (m : Message) (x : Effects) (t : State) (h : List JournalEntry) → Receives s m x t → (a : At v s h) → RunsTo t (GotMessage s m x ∷ a.0)
messages v s m x t h o a = Received m x a.1 o

abbrev Both : Scene → Type 0
Both x = At A x.world.a.core x.journal × At B x.world.b.core x.journal

abbrev Moved : Vat → World → State → List JournalEntry → Type 0
Moved v w t h = At v t h × At (other_vat v) (core w (other_vat v)) h

pair : (v : Vat) (x : Scene) → Both x → Moved v x.world (core x.world v) x.journal
pair A x b = (b.0, b.1)
pair B x b = (b.1, b.0)

-- The entries of a step: its vat's log has the event, the other's is as it was.
adds : (v : Vat) (w : World) (t : State) (h own : List JournalEntry) (x : Effects) (e : Event) (a : At v (core w v) h) → At (other_vat v) (core w (other_vat v)) h → ((u : Vat) (c : ℕ) → ended u c own ≡ 0) → RunsTo t (e ∷ a.0) → ((c : ℕ) → times_ended c (e ∷ a.0) ≡ ends_in c x.answers + times_ended c a.0)
    → Moved v w t (h ++ (own ++ effect_entries v x))
adds v w t h own x e a b n run is = (
  (
    e ∷ a.0,
    run,
    λ c.
        let p = ended-append v c h (own ++ effect_entries v x) in
        let q = ended-append v c own (effect_entries v x) in
        let r : ended v c (effect_entries v x) ≡ ends_in c x.answers = ended_effects v v c x ∙ ap (λ (y : Bool). cond y (ends_in c x.answers) 0) (reading.itself v) in
        let z = n v c in
        let y = a.2 c in
        let f = is c in
        omega arith,
  ),
  (
    b.0,
    b.1,
    λ c.
        let p = ended-append (other_vat v) c h (own ++ effect_entries v x) in
        let q = ended-append (other_vat v) c own (effect_entries v x) in
        let r : ended (other_vat v) c (effect_entries v x) ≡ 0 = ended_effects (other_vat v) v c x ∙ ap (λ (y : Bool). cond y (ends_in c x.answers) 0) (reading.other v) in
        let z = n (other_vat v) c in
        let y = b.2 c in
        omega arith,
  ),
)

went_on : (v : Vat) (x : Scene) (told : Effects) (t : State) (es : List JournalEntry) → Moved v x.world t (x.journal ++ es) → Both (scenes.goes_on x (after x.world v told t) es)
went_on A x told t es m = (m.0, m.1)
went_on B x told t es m = (m.1, m.0)

took : (v : Vat) (x : Scene) (ms : List Message) (told : Effects) (t : State) (es : List JournalEntry) → Moved v x.world t (x.journal ++ es) → Both (scenes.goes_on x (after (put_inbox x.world v ms) v told t) es)
took A x ms told t es m = (m.0, m.1)
took B x ms told t es m = (m.1, m.0)

-- A command's own entry ends no call.
born_none : (u v : Vat) (c : ℕ) (o : Origin) (g : Granted) → ended u c (born v o g) ≡ 0
born_none u v c o (granted.Reference r) = refl
born_none u v c o g = refl

promise_none : (u v : Vat) (c : ℕ) (g : Granted) → ended u c (born_promise v g) ≡ 0
promise_none u v c (granted.Promise p r) = refl
promise_none u v c g = refl

asked_none : (u v : Vat) (c : ℕ) (g : Granted) → ended u c (asked_entries v g) ≡ 0
asked_none u v c (granted.Call k) = refl
asked_none u v c g = refl

call_none : (h : List JournalEntry) (u v : Vat) (c : ℕ) (k : CallCommand) (g : Granted) → ended u c (made_entries h v k g) ≡ 0
call_none h u v c k (granted.Call id) = refl
call_none h u v c k g = refl

advanced_none : (u v : Vat) (c : ℕ) (r : RefId) (g : Granted) → ended u c (advanced_entries v r g) ≡ 0
advanced_none u v c r (granted.Advanced a) = refl
advanced_none u v c r g = refl

own_none : (h : List JournalEntry) (v : Vat) (d : Command) (g : Granted) (u : Vat) (c : ℕ) → ended u c (granted_entries h v d g) ≡ 0
own_none h v (command.Host o) g u c = born_none u v c (origin.Object o) g
own_none h v (command.CloneRef r) g u c = born_none u v c (origin.Clone r) g
own_none h v (command.DropRef r) g u c = refl
own_none h v command.Bootstrap g u c = asked_none u v c g
own_none h v (command.Call k) g u c = call_none h u v c k g
own_none h v (command.Field k path) g u c = born_none u v c (origin.Field k path) g
own_none h v command.Promise g u c = promise_none u v c g
own_none h v (command.Resolve p r) g u c = refl
own_none h v (command.Reject p why) g u c = refl
own_none h v (command.Answer t payload refs) g u c = refl
own_none h v (command.Fail t why) g u c = refl
own_none h v (command.Finish k) g u c = refl
own_none h v (command.Advance r) g u c = advanced_none u v c r g
own_none h v (command.Shut n) g u c = refl

behind_nothing : (u : Vat) (s : State) (h es : List JournalEntry) → ((c : ℕ) → ended u c es ≡ 0) → At u s h → At u s (h ++ es)
behind_nothing u s h es z a = (a.0, a.1, λ c. let p = ended-append u c h es in let q = z c in let y = a.2 c in omega arith)

gave_up : (x : Scene) (v : Vat) (es : List JournalEntry) → ((u : Vat) (c : ℕ) → ended u c es ≡ 0) → Both x → Both (scenes.stopped x v es)
gave_up x A es z b = (behind_nothing A x.world.a.core x.journal es (z A) b.0, behind_nothing B x.world.b.core x.journal es (z B) b.1)
gave_up x B es z b = (behind_nothing A x.world.a.core x.journal es (z A) b.0, behind_nothing B x.world.b.core x.journal es (z B) b.1)

stepped : (x mid : Scene) → scenes.Steps x mid → Both x → Both mid
stepped x mid (scenes.Commanded v c g told s o up r d w e) b =
    let p = pair v x b in
    let run = commands v (core x.world v) c g told s x.journal (IsDone g r refl d w) p.0 in
    rw e (went_on v x told s _ (adds v x.world s x.journal (granted_entries x.journal v c g) told (DidCommand (core x.world v) c told) p.0 p.1 (own_none x.journal v c g) run (λ k. refl)))
stepped x mid (scenes.Received v m ms told s o up i f d w e) b =
    let p = pair v x b in
    let run = messages v (core x.world v) m told s x.journal (IsHandled up f d w) p.0 in
    rw e (took v x ms told s _ (adds v x.world s x.journal (entry.Got v ∷ []) told (GotMessage (core x.world v) m told) p.0 p.1 (λ u c. refl) run (λ k. refl)))
stepped x mid (scenes.GivesUp v c o r f e) b = rw e (gave_up x v (granted_entries x.journal v c granted.Done) (own_none x.journal v c granted.Done) b)
stepped x mid (scenes.Stops v o e) b = rw e (gave_up x v [] (λ u c. refl) b)

none : (v : Vat) (o : Option ObjectId) → At v (start v One o) []
none v o = ([], New v One o, λ c. refl)

both : (a b : Option ObjectId) (x : Scene) → IsScene a b x → Both x
both a b x k = in_each a b Both (λ y mid s t p. stepped y mid t p) (none A a, none B b) x k

of_each : AllAtMostOnce → (x : Scene) → Both x → (v : Vat) (c : ℕ) → ended v c x.journal ≤ 1
of_each l x b A c = let n = l.ends x.world.a.core b.0.0 b.0.1 c in let e = b.0.2 c in omega arith
of_each l x b B c = let n = l.ends x.world.b.core b.1.0 b.1.1 c in let e = b.1.2 c in omega arith

itself_ends : (v : Vat) (c : ℕ) → one_if (same_vat v v && nat_eq c c) ≡ 1
itself_ends v c = by (same_vat v v) (nat_eq c c) (reading.itself v) (itself c)
  where
    by : (y z : Bool) → y ≡ true → z ≡ true → one_if (y && z) ≡ 1
    by y z e f = rw (e, f) refl

first_end : (h before behind : List JournalEntry) (e : JournalEntry) (a b : Option ObjectId) → ((v : Vat) (c : ℕ) → ended v c h ≤ 1) → h ≡ before ++ e ∷ behind → IfFirst (history a b before) e
first_end h before behind (entry.Ended v x) a b f i =
    not_ended v x.call.0 before
    (let p = f v x.call.0 in
    let q = ap (ended v x.call.0) i in
    let r = ended-append v x.call.0 before (entry.Ended v x ∷ behind) in
    let t : one_if (is_end_of v x.call.0 (entry.Ended v x)) ≡ 1 = itself_ends v x.call.0 in
    omega arith)
first_end h before behind e a b f i = tt

pub ends_first : AllAtMostOnce → EndsAreFirst
ends_first l a b x k before behind e i = first_end x.journal before behind e a b (of_each l x (both a b x k)) i
