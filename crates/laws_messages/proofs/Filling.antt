-- Each act keeps that payloads have as many capabilities as there are nodes or descriptors beside them.
use Rattle.std.proofs.Common.{◌≡◌, List, [], ◌∷◌, Option, None, sym, ap, subst, ◌∙◌}
use Rattle.std.specs.Ordering.{nat_cmp}
use Rattle.std.specs.FinMap as map
use Rattle.rpc_msg.specs.declared.ids.Vat.{Vat}
use Rattle.rpc_msg.specs.declared.ids.Vat.TheVariants.{A, B}
use Rattle.rpc_msg.specs.declared.ids.ObjectId.{ObjectId}
use Rattle.rpc_msg.specs.declared.message.Message.{Message}
use Rattle.rpc_journal.specs.declared.entry.JournalEntry.{JournalEntry}
use Rattle.rpc_machine.specs.declared.command.Command.{Command}
use Rattle.rpc_machine.specs.declared.command.Granted.{Granted}
use Rattle.rpc_machine.specs.declared.command.Effects.{Effects}
use Rattle.rpc_machine.specs.declared.command.Level.TheVariants.{One}
use Rattle.rpc_machine.specs.declared.calls.Promise.TheVariants as promise
use Rattle.rpc_machine.specs.State.{State, start}
use Rattle.rpc_machine.specs.Faults.{fault_of}
use Rattle.rpc_machine.specs.Commands.{heads}
use Rattle.rpc_machine.specs.Messages.{value_of_results}
use Rattle.rpc_machine.specs.Refusals.{refused}
use Rattle.rpc_machine.specs.Steps.{Does, Handles}
use Rattle.rpc_machine.specs.World.{World, core, inbox, put_inbox, after}
use Rattle.laws_acts.specs.Moments.{Moment, beginning}
use Rattle.laws_acts.specs.FirstActs.{Starts}
use Rattle.laws_acts.specs.FirstActs as first
use Rattle.laws_acts.specs.MessageActs.{Brings, ByReturn, ByEchoedRoot, ByEchoedCall, Consumes}
use Rattle.laws_acts.specs.MessageActs as message
use Rattle.laws_acts.specs.SmallActs.{Act}
use Rattle.laws_acts.specs.SmallActs as act
use Rattle.laws_acts.proofs.EachStep.{done, handled, at_end}
use Rattle.laws_runs.specs.Scenes as scenes
use Rattle.laws_runs.specs.Scenes.{Scene, IsScene, LeadsTo}
use Rattle.laws_messages.specs.PayloadCaps.{Fits, AllFit, PayloadsFit}
use Rattle.laws_messages.proofs.Filled.{CallsFit, ValueFits, PromiseFits, OutcomeFits, EmbargoFits, YetFit, ValuesFit, SayingFits, ClearingFits, StateFits, Fine, calls-append, held-append, values-append, fit-append, one_more, all_to, all_held, releases_fit, read_length, out_length, puts_promise, cuts_promise, puts_outcome, cuts_outcome, puts_embargo, cuts_embargo, fitted, said_back, results_fit, call_fits, answer_fits, root_fits}

-- ---- The first act

started : (s : State) (c : Command) (g : Granted) (new : Moment) → refused s c ≡ None → Starts (beginning s) c g new → StateFits s → Fine new
started s c g new r (first.Hosts o e a h) i = rw h (i, tt, tt, tt, tt, tt, tt, tt)
started s c g new r (first.Clones y x e f a h) i = rw h (i, tt, tt, tt, tt, tt, tt, tt)
started s c g new r (first.Drops y x e f a h) i = rw h (i, tt, tt, tt, tt, tt, tt, tt)
started s c g new r (first.AsksRoot q e f a h) i = rw h (i, tt, tt, tt, tt, tt, tt, (tt, tt))
started s c g new r (first.CallsOut k x q t ds es e f j l m n a h) i =
    rw h (i, tt, tt, tt, tt, tt, tt, (call_fits s k (subst (λ (y : Command). refused s y ≡ None) e r) ∙ out_length s s.exports (heads s k.refs) ds es n, tt))
started s c g new r (first.CallsHere k x o e f j l m a h) i =
    rw h ((i.0, puts_outcome s.outcomes o _ tt i.1, i.2), tt, tt, tt, tt, tt, (call_fits s k (subst (λ (y : Command). refused s y ≡ None) e r), tt), tt)
started s c g new r (first.CallsLater k x o y b e f j l m a h) i =
    let fits = call_fits s k (subst (λ (y : Command). refused s y ≡ None) e r) in
    let before : CallsFit b.waiting = subst EmbargoFits l (i.2 y.0) in
    rw h ((i.0, puts_outcome s.outcomes o _ tt i.1, puts_embargo s.embargoes y.0 _ (calls-append b.waiting _ before (fits, tt)) i.2), tt, tt, tt, tt, tt, tt, tt)
started s c g new r (first.NamesField k path from e f a h) i = rw h (i, tt, tt, tt, tt, tt, tt, tt)
started s c g new r (first.Promises p e f a h) i = rw h ((puts_promise s.promises p (promise.Open []) tt i.0, i.1, i.2), tt, tt, tt, tt, tt, tt, tt)
started s c g new r (first.Fixes p y x key calls e f j k a h) i =
    rw h ((puts_promise s.promises key (promise.Fixed _) tt i.0, i.1, i.2), tt, tt, tt, tt, tt, all_to _ calls (subst PromiseFits k (i.0 key)), tt)
started s c g new r (first.Rejects p why key calls e f j a h) i =
    rw h ((puts_promise s.promises key (promise.Fixed _) tt i.0, i.1, i.2), tt, tt, tt, tt, tt, all_to _ calls (subst PromiseFits j (i.0 key)), tt)
started s c g new r (first.Answers t payload refs o e f a h) i =
    rw h (i, tt, (answer_fits s t payload refs (subst (λ (y : Command). refused s y ≡ None) e r), tt), tt, tt, tt, tt, tt)
started s c g new r (first.Fails t why o e f a h) i = rw h (i, tt, (tt, tt), tt, tt, tt, tt, tt)
started s c g new r (first.Finishes k from e f a h) i = rw h (i, tt, tt, tt, tt, tt, tt, tt)
started s c g new r (first.StaysPut y x e f a h) i = rw h (i, tt, tt, tt, tt, tt, tt, tt)
started s c g new r (first.Breaks y x reason e f j k a h) i = rw h (i, tt, tt, tt, tt, tt, tt, tt)
started s c g new r (first.Switches y x by n e f j k l m a h) i = rw h (i, tt, tt, tt, tt, tt, tt, tt)
started s c g new r (first.Turns y x by n t k e f j l m o w u a h) i = rw h ((i.0, i.1, puts_embargo s.embargoes k _ tt i.2), tt, tt, tt, tt, tt, tt, (tt, tt))

brought_fits : (s : State) (m : Message) (b : message.Back) → Brings s m b → Fits m → ValueFits (value_of_results b.said)
brought_fits s m b (ByReturn r e f) k = rw f (results_fit s r.body (subst Fits e k))
brought_fits s m b (ByEchoedRoot q e f) k = rw f tt
brought_fits s m b (ByEchoedCall c e f) k = rw f tt

consumed : (s : State) (m : Message) (new : Moment) → Fits m → Consumes (beginning s) m new → StateFits s → Fine new
consumed s m new y (message.OpensRoot q o e f j h) i = rw h ((i.0, puts_outcome s.outcomes o _ tt i.1, i.2), tt, (root_fits s.bootstrap, tt), tt, tt, tt, tt, tt)
consumed s m new y (message.OpensCall c o e f j h) i =
    let own = subst Fits e y in
    rw h ((i.0, puts_outcome s.outcomes o _ tt i.1, i.2), tt, tt, tt, tt, tt, (own ∙ sym (read_length s c.descriptors), tt), tt)
consumed s m new y (message.Loses b x e f j k h) i = rw h (i, tt, tt, tt, tt, tt, tt, tt)
consumed s m new y (message.ComesToCall b x c e f j k l h) i = rw h (i, tt, tt, (brought_fits s m b e y, tt), tt, tt, tt, tt)
consumed s m new y (message.ComesToRelay b x u e f j k l h) i = rw h (i, (brought_fits s m b e y, tt), tt, tt, tt, tt, tt, tt)
consumed s m new y (message.IsFinished x z e f j h) i = rw h (i, tt, tt, tt, tt, tt, tt, tt)
consumed s m new y (message.IsResolved r e h) i = rw h (i, tt, tt, tt, tt, tt, tt, tt)
consumed s m new y (message.IsReleased r e h) i = rw h (i, tt, tt, tt, tt, tt, tt, tt)
consumed s m new y (message.SendsBack t to x e f h) i = rw h (i, tt, tt, tt, tt, tt, tt, (tt, tt))
consumed s m new y (message.Lifts t x b e f h) i =
    rw h ((i.0, i.1, cuts_embargo s.embargoes x.0 i.2), tt, tt, tt, tt, tt, all_to b.node b.waiting (subst EmbargoFits f (i.2 x.0)), tt)
consumed s m new y (message.SendsForeign p e f h) i = rw h (i, tt, tt, tt, tt, tt, tt, (tt, tt))
consumed s m new y (message.SendsOther n e h) i = rw h (i, tt, tt, tt, tt, tt, tt, (tt, tt))
consumed s m new y (message.TakesBack r e h) i = rw h (i, tt, tt, tt, tt, tt, tt, tt)
consumed s m new y (message.Ignores r e h) i = rw h (i, tt, tt, tt, tt, tt, tt, tt)

-- ---- The others

acted : (d new : Moment) → Fine d → Act d new → Fine new
acted d new i (act.Delivers c n rest u e f h) = rw h (i.0, i.1, i.2, i.3, i.4, i.5, (subst YetFit e i.6).1, i.7)
acted d new i (act.Waits c n rest p calls e f j h) =
    let now = subst YetFit e i.6 in
    rw h ((puts_promise d.state.promises p (promise.Open _) (calls-append calls (c ∷ []) (subst PromiseFits j (i.0.0 p)) (now.0, tt)) i.0.0, i.0.1, i.0.2), i.1, i.2, i.3, i.4, i.5, now.1, i.7)
acted d new i (act.Holds c n rest u path x e f j h) =
    let now = subst YetFit e i.6 in
    rw h ((i.0.0, puts_outcome d.state.outcomes u _ (held-append x.waiting _ (subst OutcomeFits j (i.0.1 u)) (now.0, tt)) i.0.1, i.0.2), i.1, i.2, i.3, i.4, i.5, now.1, i.7)
acted d new i (act.Relays c n rest q t ds es e f j k h) =
    let now = subst YetFit e i.6 in
    rw h (i.0, i.1, i.2, i.3, i.4, i.5, now.1, one_more d.effects.sends _ (now.0 ∙ out_length d.state d.state.exports c.request.caps ds es k) i.7)
acted d new i (act.Breaks c n rest reason e f h) = rw h (i.0, values-append d.arisen _ i.1 (tt, tt), i.2, i.3, i.4, i.5, (subst YetFit e i.6).1, i.7)
acted d new i (act.NextArisen u v rest e f h) = let now = subst ValuesFit f i.1 in rw h (i.0, now.1, (now.0, tt), i.3, i.4, i.5, i.6, i.7)
acted d new i (act.Knows u v fit x ps e f j k h) =
    let now = subst (λ (m : Moment). ValuesFit m.coming) e i.2 in
    let held = subst OutcomeFits f (i.0.1 u) in
    let g = fitted d.state u x.caller x.waiting v fit (record (d.state) { promises = ps }) i.0.0 now.0 k in
    rw h ((g.1, puts_outcome d.state.outcomes u _ held i.0.1, i.0.2), i.1, tt, (g.0, tt), i.4, held, i.6, i.7)
acted d new i (act.Reports c v from e f h) = rw h (i.0, i.1, i.2, tt, i.4, i.5, i.6, i.7)
acted d new i (act.TellsNobody c v e f h) = rw h (i.0, i.1, i.2, tt, i.4, i.5, i.6, i.7)
acted d new i (act.MakesReturn q v x b ds es e f j k h) =
    rw h (i.0, i.1, i.2, tt, said_back d.state x.finished v b ds es (subst ValuesFit e i.3).0 k, i.5, i.6, i.7)
acted d new i (act.SendsReturn x y e f j h) = rw h (i.0, i.1, i.2, i.3, tt, i.5, i.6, one_more d.effects.sends _ (subst SayingFits e i.4) i.7)
acted d new i (act.Clears x e f h) =
    let held = subst (λ (m : Moment). ClearingFits m.clearing) e i.5 in
    rw h ((i.0.0, puts_outcome d.state.outcomes x.outcome _ tt i.0.1, i.0.2), i.1, i.2, i.3, i.4, tt, all_held x.outcome x.waiting held, i.7)
acted d new i (act.Lists x e h) = rw h i
acted d new i (act.SendsResolve x rest k es e w f h) = rw h (i.0, i.1, i.2, i.3, i.4, i.5, i.6, one_more d.effects.sends _ tt i.7)
acted d new i (act.SendsBroken x rest reason e f h) = rw h (i.0, i.1, i.2, i.3, i.4, i.5, i.6, one_more d.effects.sends _ tt i.7)
acted d new i (act.PromiseGoes p to w e f h) = rw h ((cuts_promise d.state.promises p i.0.0, i.0.1, i.0.2), i.1, i.2, i.3, i.4, i.5, i.6, i.7)
acted d new i (act.OutcomeGoes u x v w e f j k l h) = rw h ((i.0.0, cuts_outcome d.state.outcomes u i.0.1, i.0.2), i.1, i.2, i.3, i.4, i.5, i.6, i.7)
acted d new i (act.ImportGoes k x w e f h) = rw h i
acted d new i (act.Sweeps over e f j h) = rw h i
acted d new i (act.SendsFinish q x rest e f j k l h) = rw h (i.0, i.1, i.2, i.3, i.4, i.5, i.6, one_more d.effects.sends _ tt i.7)
acted d new i (act.Closes q x rest e f j k l h) = rw h i
acted d new i (act.Releases w e f h) = rw h (i.0, i.1, i.2, i.3, i.4, i.5, i.6, fit-append d.effects.sends _ i.7 (releases_fit (map.entries d.released)))

-- ---- Steps

abbrev Kept : State → Effects → Type 0
Kept t x = StateFits t × AllFit x.sends

commands : (s : State) (c : Command) (g : Granted) (x : Effects) (t : State) → refused s c ≡ None → Does s c g x t → StateFits s → Kept t x
commands s c g x t r h i =
    let k = done Fine s c g x t (λ new j. started s c g new r j i) acted h in
    at_end Kept k.last x t k.ends (let y = k.holds in (y.0, y.7))

messages : (s : State) (m : Message) (x : Effects) (t : State) → fault_of s m ≡ None → Handles s m x t → Fits m → StateFits s → Kept t x
messages s m x t f h y i =
    let k = handled Fine s m x t f (λ new j. consumed s m new y j i) acted h in
    at_end Kept k.last x t k.ends (let z = k.holds in (z.0, z.7))

-- ---- Scenes

abbrev Whole : World → Type 0
Whole w = StateFits w.a.core × StateFits w.b.core × AllFit w.a.inbox × AllFit w.b.inbox

none : (v : Vat) (b : Option ObjectId) → StateFits (start v One b)
none v b = (
  λ k. subst PromiseFits (sym (map.get-empty nat_cmp k)) tt,
  λ k. subst OutcomeFits (sym (map.get-empty nat_cmp k)) tt,
  λ k. subst EmbargoFits (sym (map.get-empty nat_cmp k)) tt,
)

state_of : (w : World) (v : Vat) → Whole w → StateFits (core w v)
state_of w A k = k.0
state_of w B k = k.1

inbox_of : (w : World) (v : Vat) → Whole w → AllFit (inbox w v)
inbox_of w A k = k.2
inbox_of w B k = k.3

-- One vat has moved, and what it sent is on its way to the other.
moves : (w : World) (v : Vat) (ms : List Message) (x : Effects) (t : State) → Whole w → AllFit ms → Kept t x → Whole (after (put_inbox w v ms) v x t)
moves w A ms x t k f h = (h.0, k.1, f, fit-append w.b.inbox x.sends k.3 h.1)
moves w B ms x t k f h = (k.0, h.0, fit-append w.a.inbox x.sends k.2 h.1, f)

moves_alone : (w : World) (v : Vat) (x : Effects) (t : State) → Whole w → Kept t x → Whole (after w v x t)
moves_alone w A x t k h = (h.0, k.1, k.2, fit-append w.b.inbox x.sends k.3 h.1)
moves_alone w B x t k h = (k.0, h.0, fit-append w.a.inbox x.sends k.2 h.1, k.3)

world_stays : (x new : Scene) (v : Vat) (es : List JournalEntry) → new ≡ scenes.stopped x v es → new.world ≡ x.world
world_stays x new A es e = ap (λ (y : Scene). y.world) e
world_stays x new B es e = ap (λ (y : Scene). y.world) e

stepped : (x mid : Scene) → scenes.Steps x mid → Whole x.world → Whole mid.world
stepped x mid (scenes.Commanded v c g effects s o up r h w e) k = rw e (moves_alone x.world v effects s k (commands (core x.world v) c g effects s r h (state_of x.world v k)))
stepped x mid (scenes.Received v m ms effects s o up i f h w e) k =
    let fits = subst AllFit i (inbox_of x.world v k) in
    rw e (moves x.world v ms effects s k fits.1 (messages (core x.world v) m effects s f h fits.0 (state_of x.world v k)))
stepped x mid (scenes.GivesUp v c o r m e) k = subst Whole (sym (world_stays x mid v _ e)) k
stepped x mid (scenes.Stops v o e) k = subst Whole (sym (world_stays x mid v _ e)) k

leads : (last x : Scene) → LeadsTo last x → Whole x.world → Whole last.world
leads last x scenes.NoMore k = k
leads last x (scenes.Then {mid = mid} s more) k = leads last mid more (stepped x mid s k)

pub payloads_fit : PayloadsFit
payloads_fit a b x h v = inbox_of x.world v (leads x (scenes.begins a b) h (none A a, none B b, tt, tt))
