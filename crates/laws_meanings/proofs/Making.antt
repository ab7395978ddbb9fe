-- Each act keeps that what waits, what is sent and what is delivered is as it was made; so it is in each scene.
use Rattle.std.proofs.Common.{◌≡◌, true, false, ℕ, List, [], ◌∷◌, ◌++◌, length, map, append_assoc, Option, None, Some, refl, sym, subst, ◌∙◌}
use Rattle.std.specs.Ordering.{nat_cmp}
use Rattle.std.specs.FinMap as map
use Rattle.rpc_msg.specs.Payloads.{Contents as Payload}
use Rattle.rpc_msg.specs.declared.ids.Vat.{Vat}
use Rattle.rpc_msg.specs.declared.ids.Vat.TheVariants.{A, B}
use Rattle.rpc_msg.specs.declared.ids.Stamp.{Stamp}
use Rattle.rpc_msg.specs.declared.ids.ObjectId.{ObjectId}
use Rattle.rpc_msg.specs.declared.message.Message.{Message}
use Rattle.rpc_journal.specs.declared.report.Delivery.{Delivery}
use Rattle.rpc_journal.specs.declared.entry.JournalEntry.{JournalEntry}
use Rattle.rpc_journal.specs.declared.entry.JournalEntry.TheVariants as entry
use Rattle.rpc_machine.specs.declared.command.CallCommand.{CallCommand}
use Rattle.rpc_machine.specs.declared.command.Command.{Command}
use Rattle.rpc_machine.specs.declared.command.Command.TheVariants as command
use Rattle.rpc_machine.specs.declared.command.Granted.{Granted}
use Rattle.rpc_machine.specs.declared.command.Granted.TheVariants as granted
use Rattle.rpc_machine.specs.declared.command.Effects.{Effects}
use Rattle.rpc_machine.specs.declared.command.Level.TheVariants.{One}
use Rattle.rpc_machine.specs.declared.calls.Promise.TheVariants as promise
use Rattle.rpc_machine.specs.declared.entries.Reference.{Reference}
use Rattle.rpc_machine.specs.State.{State, start}
use Rattle.rpc_machine.specs.Faults.{fault_of}
use Rattle.rpc_machine.specs.Commands.{heads, request}
use Rattle.rpc_machine.specs.Steps.{Does, Handles}
use Rattle.rpc_machine.specs.World.{World, core, inbox, put_inbox, after}
use Rattle.rpc_machine.specs.Journal.{went_down, effect_entries, granted_entries}
use Rattle.rpc_machine.specs.Claims.{AreNumbered, history}
use Rattle.laws_acts.specs.Moments.{Moment, beginning}
use Rattle.laws_acts.specs.FirstActs.{Starts}
use Rattle.laws_acts.specs.FirstActs as first
use Rattle.laws_acts.specs.MessageActs.{Consumes}
use Rattle.laws_acts.specs.MessageActs as message
use Rattle.laws_acts.specs.SmallActs.{Act}
use Rattle.laws_acts.specs.SmallActs as act
use Rattle.laws_acts.proofs.Commanded.{does}
use Rattle.laws_acts.proofs.EachStep.{kept, handled, at_end}
use Rattle.laws_runs.specs.Scenes as scenes
use Rattle.laws_runs.specs.Scenes.{Scene, IsScene, LeadsTo}
use Rattle.laws_runs.specs.MadeCalls.{NumbersItsCalls}
use Rattle.laws_runs.proofs.Counting.{scenes_count}
use Rattle.laws_messages.proofs.Filled.{heads_length, read_length, out_length}
use Rattle.laws_meanings.specs.AsMade.{WasMade, CallsMade, PromiseMade, OutcomeMade, EmbargoMade, MessageMade, LinkMade, IfMade, CallsAreAsMade, DeliveriesAreAsMade}
use Rattle.laws_meanings.proofs.Entries.{is_effect, granted_always, Claim, EachAfter, each-append, each_always, upto}
use Rattle.laws_meanings.proofs.Stamped.{call_made, numbered_in}
use Rattle.laws_meanings.proofs.Walked.{in_each}
use Rattle.laws_meanings.proofs.Made.{new_refs_length, StateMade, YetMade, ClearingMade, DeliveriesMade, Fine, calls-append, held-append, link-append, deliveries-append, one_more, all_to, all_held, releases_made, puts_promise, cuts_promise, puts_outcome, cuts_outcome, puts_embargo, cuts_embargo, fitted, still_state, still_link, still_delivery}

recount : (h : List JournalEntry) {s : Stamp} {i m n k : ℕ} {p : Payload} → WasMade h s i m p n → n ≡ k → WasMade h s i m p k
recount h w e = record { call = w.call; was_made = w.was_made; interface_is = w.interface_is; method_is = w.method_is; payload_is = w.payload_is; refs = sym e ∙ w.refs }

module _ (h : List JournalEntry) where
  -- What is called through this reference was made.
  abbrev MadeNow : State → Command → Type 0
  MadeNow s c =
      (k : CallCommand) (x : Reference) → c ≡ command.Call k → map.get s.refs k.reference.0 ≡ Some x
      → WasMade h (request s k x).stamp k.interface k.method k.payload (length k.refs)

  -- ---- The first act

  started : (s : State) (c : Command) (g : Granted) (new : Moment) → MadeNow s c → Starts (beginning s) c g new → StateMade h s → Fine h new
  started s c g new r (first.Hosts o e a f) i = rw f (i, tt, tt, tt, tt)
  started s c g new r (first.Clones y x e j a f) i = rw f (i, tt, tt, tt, tt)
  started s c g new r (first.Drops y x e j a f) i = rw f (i, tt, tt, tt, tt)
  started s c g new r (first.AsksRoot q e j a f) i = rw f (i, tt, tt, (tt, tt), tt)
  started s c g new r (first.CallsOut k x q t ds es e f j l m n a u) i =
      rw u (i, tt, tt, (recount h (r k x e f) (sym (heads_length s k.refs) ∙ out_length s s.exports (heads s k.refs) ds es n), tt), tt)
  started s c g new r (first.CallsHere k x o e f j l m a u) i =
      rw u ((i.0, puts_outcome h s.outcomes o _ tt i.1, i.2), (recount h (r k x e f) (sym (heads_length s k.refs)), tt), tt, tt, tt)
  started s c g new r (first.CallsLater k x o y b e f j l m a u) i =
      let this = recount h (r k x e f) (sym (heads_length s k.refs)) in
      let before : CallsMade h b.waiting = subst (EmbargoMade h) l (i.2 y.0) in
      rw u ((i.0, puts_outcome h s.outcomes o _ tt i.1, puts_embargo h s.embargoes y.0 _ (calls-append h b.waiting _ before (this, tt)) i.2), tt, tt, tt, tt)
  started s c g new r (first.NamesField k path from e j a f) i = rw f (i, tt, tt, tt, tt)
  started s c g new r (first.Promises p e j a f) i = rw f ((puts_promise h s.promises p (promise.Open []) tt i.0, i.1, i.2), tt, tt, tt, tt)
  started s c g new r (first.Fixes p y x key calls e f j k a u) i =
      rw u ((puts_promise h s.promises key (promise.Fixed _) tt i.0, i.1, i.2), all_to h _ calls (subst (PromiseMade h) k (i.0 key)), tt, tt, tt)
  started s c g new r (first.Rejects p why key calls e f j a u) i =
      rw u ((puts_promise h s.promises key (promise.Fixed _) tt i.0, i.1, i.2), all_to h _ calls (subst (PromiseMade h) j (i.0 key)), tt, tt, tt)
  started s c g new r (first.Answers t payload refs o e j a f) i = rw f (i, tt, tt, tt, tt)
  started s c g new r (first.Fails t why o e j a f) i = rw f (i, tt, tt, tt, tt)
  started s c g new r (first.Finishes k from e j a f) i = rw f (i, tt, tt, tt, tt)
  started s c g new r (first.StaysPut y x e j a f) i = rw f (i, tt, tt, tt, tt)
  started s c g new r (first.Breaks y x reason e f j k a u) i = rw u (i, tt, tt, tt, tt)
  started s c g new r (first.Switches y x by n e f j k l m a u) i = rw u (i, tt, tt, tt, tt)
  started s c g new r (first.Turns y x by n t k e f j l m o w u a z) i = rw z ((i.0, i.1, puts_embargo h s.embargoes k _ tt i.2), tt, tt, (tt, tt), tt)

  consumed : (s : State) (m : Message) (new : Moment) → MessageMade h m → Consumes (beginning s) m new → StateMade h s → Fine h new
  consumed s m new y (message.OpensRoot q o e f j u) i = rw u ((i.0, puts_outcome h s.outcomes o _ tt i.1, i.2), tt, tt, tt, tt)
  consumed s m new y (message.OpensCall c o e f j u) i =
      let own = subst (MessageMade h) e y in
      rw u ((i.0, puts_outcome h s.outcomes o _ tt i.1, i.2), (recount h own (sym (read_length s c.descriptors)), tt), tt, tt, tt)
  consumed s m new y (message.Loses b x e f j k u) i = rw u (i, tt, tt, tt, tt)
  consumed s m new y (message.ComesToCall b x c e f j k l u) i = rw u (i, tt, tt, tt, tt)
  consumed s m new y (message.ComesToRelay b x o e f j k l u) i = rw u (i, tt, tt, tt, tt)
  consumed s m new y (message.IsFinished x z e f j u) i = rw u (i, tt, tt, tt, tt)
  consumed s m new y (message.IsResolved r e u) i = rw u (i, tt, tt, tt, tt)
  consumed s m new y (message.IsReleased r e u) i = rw u (i, tt, tt, tt, tt)
  consumed s m new y (message.SendsBack t to x e f u) i = rw u (i, tt, tt, (tt, tt), tt)
  consumed s m new y (message.Lifts t x b e f u) i =
      rw u ((i.0, i.1, cuts_embargo h s.embargoes x.0 i.2), all_to h b.node b.waiting (subst (EmbargoMade h) f (i.2 x.0)), tt, tt, tt)
  consumed s m new y (message.SendsForeign p e f u) i = rw u (i, tt, tt, (tt, tt), tt)
  consumed s m new y (message.SendsOther n e u) i = rw u (i, tt, tt, (tt, tt), tt)
  consumed s m new y (message.TakesBack r e u) i = rw u (i, tt, tt, tt, tt)
  consumed s m new y (message.Ignores r e u) i = rw u (i, tt, tt, tt, tt)

  -- ---- The others

  acted : (d new : Moment) → Fine h d → Act d new → Fine h new
  acted d new i (act.Delivers c n rest u e f k) =
      let now = subst (YetMade h) e i.1 in
      rw k (i.0, now.1, i.2, i.3, deliveries-append h d.effects.deliveries _ i.4 (recount h now.0 (sym (new_refs_length d.state.next_ref c.request.caps)), tt))
  acted d new i (act.Waits c n rest p calls e f j k) =
      let now = subst (YetMade h) e i.1 in
      rw k ((puts_promise h d.state.promises p (promise.Open _) (calls-append h calls (c ∷ []) (subst (PromiseMade h) j (i.0.0 p)) (now.0, tt)) i.0.0, i.0.1, i.0.2), now.1, i.2, i.3, i.4)
  acted d new i (act.Holds c n rest u path x e f j k) =
      let now = subst (YetMade h) e i.1 in
      rw k ((i.0.0, puts_outcome h d.state.outcomes u _ (held-append h x.waiting _ (subst (OutcomeMade h) j (i.0.1 u)) (now.0, tt)) i.0.1, i.0.2), now.1, i.2, i.3, i.4)
  acted d new i (act.Relays c n rest q t ds es e f j k u) =
      let now = subst (YetMade h) e i.1 in
      rw u (i.0, now.1, i.2, one_more h d.effects.sends _ (recount h now.0 (out_length d.state d.state.exports c.request.caps ds es k)) i.3, i.4)
  acted d new i (act.Breaks c n rest reason e f u) = rw u (i.0, (subst (YetMade h) e i.1).1, i.2, i.3, i.4)
  acted d new i (act.NextArisen o v rest e f u) = rw u i
  acted d new i (act.Knows u v fit x ps e f j k z) =
      let held = subst (OutcomeMade h) f (i.0.1 u) in
      let g = fitted h d.state u x.caller x.waiting v fit (record (d.state) { promises = ps }) i.0.0 k in
      rw z ((g, puts_outcome h d.state.outcomes u _ held i.0.1, i.0.2), i.1, held, i.3, i.4)
  acted d new i (act.Reports c v from e f u) = rw u i
  acted d new i (act.TellsNobody c v e f u) = rw u i
  acted d new i (act.MakesReturn q v x b ds es e f j k u) = rw u i
  acted d new i (act.SendsReturn x y e f j u) = rw u (i.0, i.1, i.2, one_more h d.effects.sends _ tt i.3, i.4)
  acted d new i (act.Clears x e f u) =
      let held = subst (λ (m : Moment). ClearingMade h m.clearing) e i.2 in
      rw u ((i.0.0, puts_outcome h d.state.outcomes x.outcome _ tt i.0.1, i.0.2), all_held h x.outcome x.waiting held, tt, i.3, i.4)
  acted d new i (act.Lists x e u) = rw u i
  acted d new i (act.SendsResolve x rest k es e w f u) = rw u (i.0, i.1, i.2, one_more h d.effects.sends _ tt i.3, i.4)
  acted d new i (act.SendsBroken x rest reason e f u) = rw u (i.0, i.1, i.2, one_more h d.effects.sends _ tt i.3, i.4)
  acted d new i (act.PromiseGoes p to w e f u) = rw u ((cuts_promise h d.state.promises p i.0.0, i.0.1, i.0.2), i.1, i.2, i.3, i.4)
  acted d new i (act.OutcomeGoes o x v w e f j k l u) = rw u ((i.0.0, cuts_outcome h d.state.outcomes o i.0.1, i.0.2), i.1, i.2, i.3, i.4)
  acted d new i (act.ImportGoes k x w e f u) = rw u i
  acted d new i (act.Sweeps over e f j u) = rw u i
  acted d new i (act.SendsFinish q x rest e f j k l u) = rw u (i.0, i.1, i.2, one_more h d.effects.sends _ tt i.3, i.4)
  acted d new i (act.Closes q x rest e f j k l u) = rw u i
  acted d new i (act.Releases w e f u) = rw u (i.0, i.1, i.2, link-append h d.effects.sends _ i.3 (releases_made h (map.entries d.released)), i.4)

  -- ---- Steps

  abbrev Kept : State → Effects → Type 0
  Kept t x = StateMade h t × LinkMade h x.sends × DeliveriesMade h x.deliveries

  messages : (s : State) (m : Message) (x : Effects) (t : State) → fault_of s m ≡ None → Handles s m x t → MessageMade h m → StateMade h s → Kept t x
  messages s m x t f j y i =
      let k = handled (Fine h) s m x t f (λ new e. consumed s m new y e i) acted j in
      at_end Kept k.last x t k.ends (let z = k.holds in (z.0, z.3, z.4))

-- A call that is granted is answered with its number.
pub grants : (s : State) (c : Command) (g : Granted) (new : Moment) (k : CallCommand) → c ≡ command.Call k → Starts (beginning s) c g new → g ≡ granted.Call (record { 0 = s.next_call })
grants s c g new k j (first.CallsOut y x q t ds es e f w l m n a u) = a
grants s c g new k j (first.CallsHere y x o e f w l m a u) = a
grants s c g new k j (first.CallsLater y x o z b e f w l m a u) = a
grants s c g new k j (first.Hosts o e a f) = absurd (let b = sym j ∙ e in cc)
grants s c g new k j (first.Clones y x e w a f) = absurd (let b = sym j ∙ e in cc)
grants s c g new k j (first.Drops y x e w a f) = absurd (let b = sym j ∙ e in cc)
grants s c g new k j (first.AsksRoot q e w a f) = absurd (let b = sym j ∙ e in cc)
grants s c g new k j (first.NamesField y path from e w a f) = absurd (let b = sym j ∙ e in cc)
grants s c g new k j (first.Promises p e w a f) = absurd (let b = sym j ∙ e in cc)
grants s c g new k j (first.Fixes p y x key calls e f w z a u) = absurd (let b = sym j ∙ e in cc)
grants s c g new k j (first.Rejects p why key calls e f w a u) = absurd (let b = sym j ∙ e in cc)
grants s c g new k j (first.Answers t payload refs o e w a f) = absurd (let b = sym j ∙ e in cc)
grants s c g new k j (first.Fails t why o e w a f) = absurd (let b = sym j ∙ e in cc)
grants s c g new k j (first.Finishes y from e w a f) = absurd (let b = sym j ∙ e in cc)
grants s c g new k j (first.StaysPut y x e w a f) = absurd (let b = sym j ∙ e in cc)
grants s c g new k j (first.Breaks y x reason e f w z a u) = absurd (let b = sym j ∙ e in cc)
grants s c g new k j (first.Switches y x by n e f w z l m a u) = absurd (let b = sym j ∙ e in cc)
grants s c g new k j (first.Turns y x by n t z e f w l m o q u a v) = absurd (let b = sym j ∙ e in cc)

module _ (h : List JournalEntry) (v : Vat) (s : State) (n : AreNumbered h) (m : NumbersItsCalls v s h) where
  made_now : (c : Command) (g : Granted) (new : Moment) → Starts (beginning s) c g new → MadeNow (h ++ granted_entries h v c g) s c
  made_now c g new st k x e f =
      let a = grants s c g new k e st in
      let this = call_made h v k (record { 0 = s.next_call }) (request s k x).stamp (length k.refs) n (m.stamps k x f) refl in
      subst (λ (d : Command). WasMade (h ++ granted_entries h v d g) (request s k x).stamp k.interface k.method k.payload (length k.refs)) (sym e)
      (subst (λ (b : Granted). WasMade (h ++ granted_entries h v (command.Call k) b) (request s k x).stamp k.interface k.method k.payload (length k.refs)) (sym a) this)

  commands : (c : Command) (g : Granted) (x : Effects) (t : State) → Does s c g x t → StateMade h s → Kept (h ++ granted_entries h v c g) t x
  commands c g x t d i =
      let es = granted_entries h v c g in
      let k = does s c g x t d in
      let one = started (h ++ es) s c g k.started (made_now c g k.started k.starts) k.starts (still_state h es s i) in
      at_end (Kept (h ++ es)) k.last x t k.ends (let z = kept (Fine (h ++ es)) (acted (h ++ es)) k.last k.started k.acts one in (z.0, z.3, z.4))

-- ---- Deliveries in the history up to them

abbrev IfSo : Claim
IfSo h e = IfMade (record { journal = h; root_a = None; root_b = None }) e

deliveries_fine : (v : Vat) (h : List JournalEntry) (ds : List Delivery) → DeliveriesMade h ds → EachAfter IfSo h (map (entry.Delivered v) ds)
deliveries_fine v h [] a = tt
deliveries_fine v h (d ∷ ds) a = (a.0, deliveries_fine v (h ++ entry.Delivered v d ∷ []) ds (still_all ds a.1))
  where
    still_all : (xs : List Delivery) → DeliveriesMade h xs → DeliveriesMade (h ++ entry.Delivered v d ∷ []) xs
    still_all [] a = tt
    still_all (x ∷ xs) a = (still_delivery h (entry.Delivered v d ∷ []) x a.0, still_all xs a.1)

more_deliveries : (h es : List JournalEntry) (ds : List Delivery) → DeliveriesMade h ds → DeliveriesMade (h ++ es) ds
more_deliveries h es [] a = tt
more_deliveries h es (d ∷ ds) a = (still_delivery h es d a.0, more_deliveries h es ds a.1)

none_down : (v : Vat) (h : List JournalEntry) (o : Option ℕ) → EachAfter IfSo h (went_down v o)
none_down v h None = tt
none_down v h (Some n) = (tt, tt)

effects_fine : (v : Vat) (h : List JournalEntry) (x : Effects) → DeliveriesMade h x.deliveries → EachAfter IfSo h (effect_entries v x)
effects_fine v h x a =
    let ms = map (entry.Sent v) x.sends in
    let ds = map (entry.Delivered v) x.deliveries in
    let es = map (entry.Ended v) x.answers in
    each-append IfSo h (ms ++ ds ++ es) (went_down v x.down)
    (each-append IfSo h (ms ++ ds) es
    (each-append IfSo h ms ds (each_always IfSo (entry.Sent v) (λ l y. tt) h x.sends) (deliveries_fine v (h ++ ms) x.deliveries (more_deliveries h ms x.deliveries a)))
    (each_always IfSo (entry.Ended v) (λ l y. tt) (h ++ (ms ++ ds)) x.answers))
    (none_down v (h ++ (ms ++ ds ++ es)) x.down)

no_delivery : (l : List JournalEntry) (e : JournalEntry) → is_effect e ≡ false → IfSo l e
no_delivery l (entry.Delivered v d) f = absurd (let g : true ≡ false = f in cc)
no_delivery l e f = tt

granted_fine : (h : List JournalEntry) (v : Vat) (c : Command) (g : Granted) → EachAfter IfSo h (granted_entries h v c g)
granted_fine h v c g = granted_always IfSo no_delivery v h h c g

-- ---- Scenes

abbrev Whole : List JournalEntry → World → Type 0
Whole h w = StateMade h w.a.core × StateMade h w.b.core × LinkMade h w.a.inbox × LinkMade h w.b.inbox

abbrev Good : Scene → Type 0
Good x = Whole x.journal x.world × EachAfter IfSo [] x.journal

none : (v : Vat) (b : Option ObjectId) → StateMade [] (start v One b)
none v b = (
  λ k. subst (PromiseMade []) (sym (map.get-empty nat_cmp k)) tt,
  λ k. subst (OutcomeMade []) (sym (map.get-empty nat_cmp k)) tt,
  λ k. subst (EmbargoMade []) (sym (map.get-empty nat_cmp k)) tt,
)

state_of : (h : List JournalEntry) (w : World) (v : Vat) → Whole h w → StateMade h (core w v)
state_of h w A k = k.0
state_of h w B k = k.1

inbox_of : (h : List JournalEntry) (w : World) (v : Vat) → Whole h w → LinkMade h (inbox w v)
inbox_of h w A k = k.2
inbox_of h w B k = k.3

more_whole : (h es : List JournalEntry) (w : World) → Whole h w → Whole (h ++ es) w
more_whole h es w k = (still_state h es w.a.core k.0, still_state h es w.b.core k.1, still_link h es w.a.inbox k.2, still_link h es w.b.inbox k.3)

-- One vat has moved, and what it sent is on its way to the other.
moves : (h : List JournalEntry) (w : World) (v : Vat) (ms : List Message) (x : Effects) (t : State) → Whole h w → LinkMade h ms → StateMade h t → LinkMade h x.sends → Whole h (after (put_inbox w v ms) v x t)
moves h w A ms x t k f s l = (s, k.1, f, link-append h w.b.inbox x.sends k.3 l)
moves h w B ms x t k f s l = (k.0, s, link-append h w.a.inbox x.sends k.2 l, f)

moves_alone : (h : List JournalEntry) (w : World) (v : Vat) (x : Effects) (t : State) → Whole h w → StateMade h t → LinkMade h x.sends → Whole h (after w v x t)
moves_alone h w A x t k s l = (s, k.1, k.2, link-append h w.b.inbox x.sends k.3 l)
moves_alone h w B x t k s l = (k.0, s, link-append h w.a.inbox x.sends k.2 l, k.3)

-- Its own entries, and then what its effects write.
written : (h own : List JournalEntry) (v : Vat) (x : Effects) → EachAfter IfSo [] h → EachAfter IfSo h own → DeliveriesMade (h ++ own) x.deliveries → EachAfter IfSo [] (h ++ (own ++ effect_entries v x))
written h own v x a b c = each-append IfSo [] h (own ++ effect_entries v x) a (each-append IfSo h own (effect_entries v x) b (effects_fine v (h ++ own) x c))

behind : (h own es : List JournalEntry) (w : World) → Whole (h ++ own) w → Whole (h ++ (own ++ es)) w
behind h own es w k = subst (λ (l : List JournalEntry). Whole l w) (append_assoc h own es) (more_whole (h ++ own) es w k)

gave_up : (x : Scene) (v : Vat) (es : List JournalEntry) → EachAfter IfSo x.journal es → Good x → Good (scenes.stopped x v es)
gave_up x A es e k = (more_whole x.journal es x.world k.0, each-append IfSo [] x.journal es k.1 e)
gave_up x B es e k = (more_whole x.journal es x.world k.0, each-append IfSo [] x.journal es k.1 e)

stepped : (x mid : Scene) → AreNumbered x.journal → ((v : Vat) → NumbersItsCalls v (core x.world v) x.journal) → scenes.Steps x mid → Good x → Good mid
stepped x mid n m (scenes.Commanded v c g told s o up r d w e) k =
    let own = granted_entries x.journal v c g in
    let y = commands x.journal v (core x.world v) n (m v) c g told s d (state_of x.journal x.world v k.0) in
    let z = moves_alone (x.journal ++ own) x.world v told s (more_whole x.journal own x.world k.0) y.0 y.1 in
    rw e (behind x.journal own (effect_entries v told) (after x.world v told s) z, written x.journal own v told k.1 (granted_fine x.journal v c g) y.2)
stepped x mid n m (scenes.Received v p ms told s o up i f d w e) k =
    let own = entry.Got v ∷ [] in
    let link = subst (LinkMade x.journal) i (inbox_of x.journal x.world v k.0) in
    let later = still_link x.journal own (p ∷ ms) link in
    let y = messages (x.journal ++ own) (core x.world v) p told s f d later.0 (still_state x.journal own (core x.world v) (state_of x.journal x.world v k.0)) in
    let z = moves (x.journal ++ own) x.world v ms told s (more_whole x.journal own x.world k.0) later.1 y.0 y.1 in
    rw e (behind x.journal own (effect_entries v told) (after (put_inbox x.world v ms) v told s) z, written x.journal own v told k.1 (tt, tt) y.2)
stepped x mid n m (scenes.GivesUp v c o r f e) k = rw e (gave_up x v (granted_entries x.journal v c granted.Done) (granted_fine x.journal v c granted.Done) k)
stepped x mid n m (scenes.Stops v o e) k = rw e (gave_up x v [] tt k)

good : (a b : Option ObjectId) (x : Scene) → IsScene a b x → Good x
good a b x k =
    in_each a b Good (λ y mid s t p. stepped y mid (numbered_in a b y s) (λ v. scenes_count a b y s v) t p) ((none A a, none B b, tt, tt), tt) x k

pub calls_made : CallsAreAsMade
calls_made a b x k v =
    let w = (good a b x k).0 in
    let s = state_of x.journal x.world v w in
    (record { promises = s.0; outcomes = s.1; embargoes = s.2 }, inbox_of x.journal x.world v w)

as_in : (a b : Option ObjectId) (h : List JournalEntry) (e : JournalEntry) → IfSo h e → IfMade (history a b h) e
as_in a b h (entry.Delivered v d) i = i
as_in a b h e i = tt

pub deliveries_made : DeliveriesAreAsMade
deliveries_made a b x k before behind e f = as_in a b before e (upto IfSo [] x.journal before behind e (good a b x k).1 f)
