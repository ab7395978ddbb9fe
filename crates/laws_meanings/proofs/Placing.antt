-- Each act leaves a call at as many places as it found it, or at fewer; and it begins at one. So in each scene it is at one
-- place at most.
use Rattle.std.proofs.Common.{◌≡◌, inl, inr, ℕ, ◌+◌, ◌≤◌, Bool, true, false, cond, Option, None, Some, List, [], ◌∷◌, ◌++◌, refl, sym, ap, subst, arith}
use Rattle.std.specs.FinMap as map
use Rattle.finite_maps.proofs.Tallies.{tally-empty, tally-new, tally-remove}
use Rattle.rpc_msg.specs.declared.ids.Vat.{Vat}
use Rattle.rpc_msg.specs.declared.ids.Vat.TheVariants.{A, B}
use Rattle.rpc_msg.specs.declared.ids.Stamp.{Stamp}
use Rattle.rpc_msg.specs.declared.ids.ObjectId.{ObjectId}
use Rattle.rpc_msg.specs.declared.message.Message.{Message}
use Rattle.rpc_msg.specs.declared.message.Message.TheVariants as message
use Rattle.rpc_journal.specs.History as callers
use Rattle.rpc_journal.specs.History.{same_stamp}
use Rattle.rpc_journal.specs.declared.entry.JournalEntry.{JournalEntry}
use Rattle.rpc_journal.specs.declared.entry.JournalEntry.TheVariants as entry
use Rattle.rpc_machine.specs.declared.node.Node.TheVariants as node
use Rattle.rpc_machine.specs.declared.node.Reason.TheVariants.{BrokenPromise}
use Rattle.rpc_machine.specs.declared.calls.WaitingCall.{WaitingCall}
use Rattle.rpc_machine.specs.declared.calls.Promise.TheVariants as promise
use Rattle.rpc_machine.specs.declared.calls.KeptOutcome.{KeptOutcome}
use Rattle.rpc_machine.specs.declared.calls.Caller.TheVariants as caller
use Rattle.rpc_machine.specs.declared.entries.Embargo.{Embargo}
use Rattle.rpc_machine.specs.declared.command.CallCommand.{CallCommand}
use Rattle.rpc_machine.specs.declared.command.Command.{Command}
use Rattle.rpc_machine.specs.declared.command.Command.TheVariants as command
use Rattle.rpc_machine.specs.declared.command.Granted.{Granted}
use Rattle.rpc_machine.specs.declared.command.Granted.TheVariants as granted
use Rattle.rpc_machine.specs.declared.command.Effects.{Effects}
use Rattle.rpc_machine.specs.declared.entries.Reference.{Reference}
use Rattle.rpc_machine.specs.State.{State}
use Rattle.rpc_machine.specs.Commands.{request}
use Rattle.rpc_machine.specs.Faults.{fault_of}
use Rattle.rpc_machine.specs.Steps.{Does, Handles}
use Rattle.rpc_machine.specs.World.{core, inbox, put_inbox, after}
use Rattle.rpc_machine.specs.Journal.{effect_entries, granted_entries, journal}
use Rattle.rpc_machine.specs.Claims.{history}
use Rattle.laws_acts.specs.Moments.{Moment, beginning, held_to}
use Rattle.laws_acts.specs.FirstActs.{Starts, waiting_call, asking}
use Rattle.laws_acts.specs.FirstActs as first
use Rattle.laws_acts.specs.MessageActs.{Consumes}
use Rattle.laws_acts.specs.MessageActs as heard
use Rattle.laws_acts.specs.SmallActs.{Act, IsStill, kept_known, delivery}
use Rattle.laws_acts.specs.SmallActs as act
use Rattle.laws_acts.proofs.EachStep.{done, handled, at_end}
use Rattle.rpc_msg.specs.declared.message.ResolvedTo.TheVariants as resolved
use Rattle.rpc_machine.specs.Progress.{numbers}
use Rattle.rpc_machine.specs.Flags.{flag_for}
use Rattle.rpc_machine.specs.Settling.{or_failed, resolve_message}
use Rattle.rpc_machine.specs.Sweeping.{got_of}
use Rattle.rpc_msg.specs.declared.message.PlainMessage.TheVariants as plain
use Rattle.laws_runs.specs.Scenes as scenes
use Rattle.laws_runs.specs.Scenes.{Scene, IsScene, begins}
use Rattle.laws_runs.specs.MadeCalls.{NumbersItsCalls}
use Rattle.laws_runs.proofs.Counting.{scenes_count}
use Rattle.laws_runs.proofs.Showing.{every_run}
use Rattle.laws_runs.specs.Telling.{tells, telling}
use Rattle.laws_meanings.specs.OnePlace.{counted, in_held, at_promise, at_outcome, at_embargo, waiting, in_message, on_way, in_entry, deliveries_of, places, CallsAreAtOnePlace, IfFirstDelivery, DeliveriesAreFirst, DeliveredOnce}
use Rattle.laws_meanings.specs.NoneLost.{in_yet, in_deliveries, here}
use Rattle.laws_meanings.proofs.Placed.{one_more, one_held, way-append, entries-append, deliveries-append, all_to, all_held, no_releases, fitted, of_effects, times_made, made-append, made_once, not_delivered}
use Rattle.laws_meanings.proofs.Stamped.{numbered_in, same_itself}
use Rattle.laws_meanings.proofs.Making.{grants}
use Rattle.laws_meanings.proofs.Entries.{is_effect, granted_always, Claim, EachAfter}
use Rattle.laws_meanings.proofs.Walked.{in_each}
use Rattle.laws_nodes.proofs.Sourced.{put, cut}

-- What a command calls has the stamp that is new.
abbrev IsOwn : State → (Stamp → ℕ) → Command → Type 0
IsOwn s own c = (x : CallCommand) (y : Reference) → c ≡ command.Call x → map.get s.refs x.reference.0 ≡ Some y → (k : Stamp) → counted (same_stamp k (request s x y).stamp) ≡ own k

module _ (limit : Stamp → ℕ) where
  abbrev pub Fine : Moment → Type 0
  Fine d = (k : Stamp) → here k d ≤ limit k

  pub acted : (d new : Moment) → Fine d → Act d new → Fine new
  acted d new i (act.Delivers c n rest u e f h) =
      rw h (λ k. let b = i k in let y = ap (in_yet k) e in let x = deliveries-append k d.effects.deliveries (delivery d.state c u ∷ []) in omega arith)
  acted d new i (act.Waits c n rest p calls e f j h) =
      rw h (λ k. let b = i k in let y = ap (in_yet k) e in let x = put (at_promise k) d.state.promises p (promise.Open calls) (promise.Open (calls ++ c ∷ [])) j in let z = one_more k calls c in omega arith)
  acted d new i (act.Holds c n rest u path x e f j h) =
      let w : KeptOutcome = record x { waiting = x.waiting ++ record { path = path; call = c } ∷ [] } in
      rw h (λ k. let b = i k in let y = ap (in_yet k) e in let z = put (at_outcome k) d.state.outcomes u x w j in let v = one_held k x.waiting (record { path = path; call = c }) in omega arith)
  acted d new i (act.Relays c n rest q t ds es e f j l h) =
      rw h (λ k. let b = i k in let y = ap (in_yet k) e in let x = way-append k d.effects.sends (message.Plain (asking q t c.request ds) ∷ []) in omega arith)
  acted d new i (act.Breaks c n rest reason e f h) = rw h (λ k. let b = i k in let y = ap (in_yet k) e in omega arith)
  acted d new i (act.NextArisen u v rest e f h) = rw h i
  acted d new i (act.Knows u v fit x ps e f j l h) =
      let w : KeptOutcome = kept_known x.caller fit x.waiting in
      rw h (λ k. let b = i k in let c = put (at_outcome k) d.state.outcomes u x w f in let z = fitted k u x.caller x.waiting d.state v fit (record (d.state) { promises = ps }) l in omega arith)
  acted d new i (act.Reports c v from e f h) = rw h i
  acted d new i (act.TellsNobody c v e f h) = rw h i
  acted d new i (act.MakesReturn q v x b ds es e f j k h) = rw h i
  acted d new i (act.SendsReturn x y e f j h) = rw h (λ k. let b = i k in let z = way-append k d.effects.sends (message.Plain (plain.Return (record { answer = x.answer; release_param_caps = flag_for d.state (numbers y.taken); body = x.body })) ∷ []) in omega arith)
  acted d new i (act.Clears x e f h) = rw h (λ k. by k f)
    where
      by : (k : Stamp) → IsStill d.state x → here k (record d { state = record (d.state) { outcomes = map.insert d.state.outcomes x.outcome (kept_known x.caller x.value []) }; yet = held_to x.outcome x.waiting }) ≤ limit k
      by k (inl g) =
          let b = i k in
          let y : in_yet k d.yet ≡ 0 = ap (λ (m : Moment). in_yet k m.yet) e in
          let c = put (at_outcome k) d.state.outcomes x.outcome (kept_known x.caller x.value x.waiting) (kept_known x.caller x.value []) g in
          let z = all_held k x.outcome x.waiting in
          omega arith
      by k (inr g) =
          let b = i k in
          let y : in_yet k d.yet ≡ 0 = ap (λ (m : Moment). in_yet k m.yet) e in
          let c = tally-new (at_outcome k) d.state.outcomes x.outcome (kept_known x.caller x.value []) g.0 in
          let z = all_held k x.outcome x.waiting in
          let n : in_held k x.waiting ≡ 0 = ap (in_held k) g.1 in
          omega arith
  acted d new i (act.Lists x e h) = rw h i
  acted d new i (act.SendsResolve x rest u es e w f h) = rw h (λ k. let b = i k in let z = way-append k d.effects.sends (message.Plain (resolve_message x.export (resolved.Cap u)) ∷ []) in omega arith)
  acted d new i (act.SendsBroken x rest reason e f h) = rw h (λ k. let b = i k in let z = way-append k d.effects.sends (message.Plain (resolve_message x.export (resolved.Exception (or_failed x.why reason))) ∷ []) in omega arith)
  acted d new i (act.PromiseGoes p to w e f h) = rw h (λ k. let b = i k in let x = tally-remove (at_promise k) d.state.promises p in omega arith)
  acted d new i (act.OutcomeGoes u x v w e f j z l h) = rw h (λ k. let b = i k in let y = tally-remove (at_outcome k) d.state.outcomes u in omega arith)
  acted d new i (act.ImportGoes u x w e f h) = rw h i
  acted d new i (act.Sweeps over e f j h) = rw h i
  acted d new i (act.SendsFinish q x rest e f j u l h) = rw h (λ k. let b = i k in let z = way-append k d.effects.sends (message.Plain (plain.Finish (record { question = record { 0 = q }; release_result_caps = flag_for d.state (got_of x.returned) })) ∷ []) in omega arith)
  acted d new i (act.Closes q x rest e f j k l h) = rw h i
  acted d new i (act.Releases w e f h) = rw h (λ k. let b = i k in let z = way-append k d.effects.sends (act.release_messages (map.entries d.released)) in let y = no_releases k (map.entries d.released) in omega arith)

  -- ---- The first act

  module _ (s : State) (own : Stamp → ℕ) (room : (k : Stamp) → waiting k s + own k ≤ limit k) where
    nothing_new : (k : Stamp) → here k (beginning s) ≤ limit k
    nothing_new k = let r = room k in omega arith

    pub started : (c : Command) (g : Granted) (new : Moment) → IsOwn s own c → Starts (beginning s) c g new → Fine new
    started c g new o (first.CallsOut x y q t ds es e f j l m n a u) = rw u (λ k. let r = room k in let z = o x y e f k in omega arith)
    started c g new o (first.CallsHere x y w e f j l m a u) =
        let b : KeptOutcome = record { caller = caller.Application (record { 0 = s.next_call }); value = None; waiting = [] } in
        rw u (λ k. let r = room k in let z = o x y e f k in let n = tally-new (at_outcome k) s.outcomes w b m in omega arith)
    started c g new o (first.CallsLater x y w q b e f j l m a u) =
        let d : KeptOutcome = record { caller = caller.Application (record { 0 = s.next_call }); value = None; waiting = [] } in
        let this : WaitingCall = waiting_call s x y w in
        rw u (
        λ k.
        let r = room k in
        let z = o x y e f k in
        let n = tally-new (at_outcome k) s.outcomes w d m in
        let p = put (at_embargo k) s.embargoes q.0 b (record b { waiting = b.waiting ++ this ∷ [] }) l in
        let i = one_more k b.waiting this in
        omega arith
        )
    started c g new o (first.AsksRoot q e f a u) = rw u (λ k. let r = room k in omega arith)
    started c g new o (first.Hosts w e a u) = rw u nothing_new
    started c g new o (first.Clones y x e f a u) = rw u nothing_new
    started c g new o (first.NamesField y path from e f a u) = rw u nothing_new
    started c g new o (first.Promises p e f a u) = rw u (λ k. let r = room k in let n = tally-new (at_promise k) s.promises p (promise.Open []) f in omega arith)
    started c g new o (first.Drops y x e f a u) = rw u nothing_new
    started c g new o (first.Fixes p y x key calls e f j l a u) =
        rw u (λ k. let r = room k in let n = put (at_promise k) s.promises key (promise.Open calls) (promise.Fixed x.head) l in let t = all_to k (node.Promise key) calls in omega arith)
    started c g new o (first.Rejects p why key calls e f j a u) =
        rw u (λ k. let r = room k in let n = put (at_promise k) s.promises key (promise.Open calls) (promise.Fixed (node.Broken BrokenPromise)) j in let t = all_to k (node.Promise key) calls in omega arith)
    started c g new o (first.Answers t payload refs w e f a u) = rw u nothing_new
    started c g new o (first.Fails t why w e f a u) = rw u nothing_new
    started c g new o (first.Finishes y from e f a u) = rw u nothing_new
    started c g new o (first.StaysPut y x e f a u) = rw u nothing_new
    started c g new o (first.Breaks y x reason e f j l a u) = rw u nothing_new
    started c g new o (first.Switches y x by n e f j l m w a u) = rw u nothing_new
    started c g new o (first.Turns y x by n t z e f j l m w p q a u) =
        let b : Embargo = record { reference = record { 0 = y.0 }; node = n; waiting = [] } in
        rw u (λ k. let r = room k in let d = tally-new (at_embargo k) s.embargoes z b q in omega arith)

  module _ (s : State) (m : Message) (room : (k : Stamp) → waiting k s + in_message k m ≤ limit k) where
    nothing_routed : (k : Stamp) → here k (beginning s) ≤ limit k
    nothing_routed k = let r = room k in omega arith

    pub consumed : (new : Moment) → Consumes (beginning s) m new → Fine new
    consumed new (heard.OpensRoot q o e f j u) =
        let b : KeptOutcome = record { caller = caller.Peer q; value = None; waiting = [] } in
        rw u (λ k. let r = room k in let n = tally-new (at_outcome k) s.outcomes o b j in omega arith)
    consumed new (heard.OpensCall c o e f j u) =
        let b : KeptOutcome = record { caller = caller.Peer c.question; value = None; waiting = [] } in
        rw u (λ k. let r = room k in let z = ap (in_message k) e in let n = tally-new (at_outcome k) s.outcomes o b j in omega arith)
    consumed new (heard.Loses b x e f j l u) = rw u nothing_routed
    consumed new (heard.ComesToCall b x c e f j l y u) = rw u nothing_routed
    consumed new (heard.ComesToRelay b x o e f j l y u) = rw u nothing_routed
    consumed new (heard.IsFinished x z e f j u) = rw u nothing_routed
    consumed new (heard.IsResolved r e u) = rw u nothing_routed
    consumed new (heard.IsReleased r e u) = rw u nothing_routed
    consumed new (heard.SendsBack t to x e f u) = rw u (λ k. let r = room k in omega arith)
    consumed new (heard.Lifts t x b e f u) =
        rw u (λ k. let r = room k in let n = cut (at_embargo k) s.embargoes x.0 b f in let z = all_to k b.node b.waiting in omega arith)
    consumed new (heard.SendsForeign p e f u) = rw u (λ k. let r = room k in omega arith)
    consumed new (heard.SendsOther n e u) = rw u (λ k. let r = room k in omega arith)
    consumed new (heard.TakesBack r e u) = rw u nothing_routed
    consumed new (heard.Ignores r e u) = rw u nothing_routed

  -- ---- Steps

  abbrev Left : State → Effects → Type 0
  Left t x = (k : Stamp) → waiting k t + (on_way k x.sends + in_deliveries k x.deliveries) ≤ limit k

  at_last : (last : Moment) → Fine last → (k : Stamp) → waiting k last.state + (on_way k last.effects.sends + in_deliveries k last.effects.deliveries) ≤ limit k
  at_last last f k = let a = f k in omega arith

  messages : (s : State) (m : Message) (x : Effects) (t : State) → fault_of s m ≡ None → Handles s m x t → ((k : Stamp) → waiting k s + in_message k m ≤ limit k) → Left t x
  messages s m x t f d room =
      let k = handled Fine s m x t f (λ new j. consumed s m room new j) acted d in
      at_end Left k.last x t k.ends (at_last k.last k.holds)

  commands : (s : State) (c : Command) (g : Granted) (x : Effects) (t : State) (own : Stamp → ℕ) → ((new : Moment) → Starts (beginning s) c g new → IsOwn s own c) → Does s c g x t → ((k : Stamp) → waiting k s + own k ≤ limit k) → Left t x
  commands s c g x t own o d room =
      let k = done Fine s c g x t (λ new j. started s own room c g new (o new j) j) acted d in
      at_end Left k.last x t k.ends (at_last k.last k.holds)

-- ---- What is new

-- A call has the stamp under which its entry is written.
module _ (h : List JournalEntry) (v : Vat) (s : State) (m : NumbersItsCalls v s h) where
  pub has_own : (c : Command) (g : Granted) (new : Moment) → Starts (beginning s) c g new → IsOwn s (λ k. times_made k (granted_entries h v c g)) c
  has_own c g new st x y e f k =
      let a = grants s c g new x e st in
      subst (λ (d : Command). counted (same_stamp k (request s x y).stamp) ≡ times_made k (granted_entries h v d g)) (sym e)
      (subst (λ (b : Granted). counted (same_stamp k (request s x y).stamp) ≡ times_made k (granted_entries h v (command.Call x) b)) (sym a)
      (let b = ap (λ z. counted (same_stamp k z)) (m.stamps x y f) in omega arith))

-- A command's own entries are no delivery.
module _ (k : Stamp) where
  abbrev NoDelivery : Claim
  NoDelivery l e = in_entry k e ≡ 0

  no_delivery : (l : List JournalEntry) (e : JournalEntry) → is_effect e ≡ false → NoDelivery l e
  no_delivery l (entry.Delivered v d) f = absurd (let g : true ≡ false = f in cc)
  no_delivery l e f = refl

  none_of : (h es : List JournalEntry) → EachAfter NoDelivery h es → deliveries_of k es ≡ 0
  none_of h [] f = refl
  none_of h (e ∷ es) f = let a = f.0 in let b = none_of (h ++ e ∷ []) es f.1 in omega arith

  pub own_none : (h : List JournalEntry) (v : Vat) (c : Command) (g : Granted) → deliveries_of k (granted_entries h v c g) ≡ 0
  own_none h v c g = none_of h (granted_entries h v c g) (granted_always NoDelivery no_delivery v h h c g)

-- ---- Scenes

-- It is at that many places fewer than it was made.
abbrev pub Fewer : Stamp → ℕ → Scene → Type 0
Fewer k n x = places k x + n ≤ times_made k x.journal

abbrev pub AtMost : Scene → Type 0
AtMost x = (k : Stamp) → Fewer k 0 x

abbrev pub Leaves : Stamp → State → Effects → ℕ
Leaves k t x = waiting k t + (on_way k x.sends + in_deliveries k x.deliveries)

-- One vat has moved: it holds, sent and delivered no more than it held, called and received.
pub commanded : (k : Stamp) (m0 n0 : ℕ) (x : Scene) (v : Vat) (told : Effects) (t : State) (own : List JournalEntry) → Fewer k n0 x → deliveries_of k own ≡ 0
    → Leaves k t told + m0 ≤ waiting k (core x.world v) + times_made k own → Fewer k (m0 + n0) (scenes.goes_on x (after x.world v told t) (own ++ effect_entries v told))
commanded k m0 n0 x A told t own p n l =
    let d = entries-append k x.journal (own ++ effect_entries A told) in
    let e = entries-append k own (effect_entries A told) in
    let f = of_effects k A told in
    let g = made-append k x.journal (own ++ effect_entries A told) in
    let i = made-append k own (effect_entries A told) in
    let j = way-append k x.world.b.inbox told.sends in
    omega arith
commanded k m0 n0 x B told t own p n l =
    let d = entries-append k x.journal (own ++ effect_entries B told) in
    let e = entries-append k own (effect_entries B told) in
    let f = of_effects k B told in
    let g = made-append k x.journal (own ++ effect_entries B told) in
    let i = made-append k own (effect_entries B told) in
    let j = way-append k x.world.a.inbox told.sends in
    omega arith

pub received : (k : Stamp) (m0 n0 : ℕ) (x : Scene) (v : Vat) (m : Message) (ms : List Message) (told : Effects) (t : State) → Fewer k n0 x → inbox x.world v ≡ m ∷ ms
    → Leaves k t told + m0 ≤ waiting k (core x.world v) + in_message k m → Fewer k (m0 + n0) (scenes.goes_on x (after (put_inbox x.world v ms) v told t) (entry.Got v ∷ [] ++ effect_entries v told))
received k m0 n0 x A m ms told t p q l =
    let c = ap (on_way k) q in
    let d = entries-append k x.journal (entry.Got A ∷ effect_entries A told) in
    let f = of_effects k A told in
    let g = made-append k x.journal (entry.Got A ∷ effect_entries A told) in
    let j = way-append k x.world.b.inbox told.sends in
    omega arith
received k m0 n0 x B m ms told t p q l =
    let c = ap (on_way k) q in
    let d = entries-append k x.journal (entry.Got B ∷ effect_entries B told) in
    let f = of_effects k B told in
    let g = made-append k x.journal (entry.Got B ∷ effect_entries B told) in
    let j = way-append k x.world.a.inbox told.sends in
    omega arith

gave_up : (k : Stamp) (n0 : ℕ) (x : Scene) (v : Vat) (es : List JournalEntry) → deliveries_of k es ≡ 0 → Fewer k n0 x → Fewer k n0 (scenes.stopped x v es)
gave_up k n0 x A es n p = let c = entries-append k x.journal es in let d = made-append k x.journal es in omega arith
gave_up k n0 x B es n p = let c = entries-append k x.journal es in let d = made-append k x.journal es in omega arith

-- No step takes it to more places than it is made more often.
pub stepped : (k : Stamp) (n0 : ℕ) (x mid : Scene) → ((v : Vat) → NumbersItsCalls v (core x.world v) x.journal) → scenes.Steps x mid → Fewer k n0 x → Fewer k n0 mid
stepped k n0 x mid m (scenes.Commanded v c g told s o up r d w e) p =
    let own = granted_entries x.journal v c g in
    let t = core x.world v in
    let l = commands (λ k. waiting k t + times_made k own) t c g told s (λ k. times_made k own) (has_own x.journal v t (m v) c g) d (λ k. omega arith) k in
    rw e (let z = commanded k 0 n0 x v told s own p (own_none k x.journal v c g) (omega arith) in omega arith)
stepped k n0 x mid m (scenes.Received v y ms told s o up i f d w e) p =
    let t = core x.world v in
    let l = messages (λ k. waiting k t + in_message k y) t y told s f d (λ k. omega arith) k in
    rw e (let z = received k 0 n0 x v y ms told s p i (omega arith) in omega arith)
stepped k n0 x mid m (scenes.GivesUp v c o r f e) p = rw e (gave_up k n0 x v (granted_entries x.journal v c granted.Done) (own_none k x.journal v c granted.Done) p)
stepped k n0 x mid m (scenes.Stops v o e) p = rw e (gave_up k n0 x v [] refl p)

none : (a b : Option ObjectId) → AtMost (begins a b)
none a b k = let c = tally-empty (at_promise k) in let d = tally-empty (at_outcome k) in let e = tally-empty (at_embargo k) in omega arith

pub at_most : (a b : Option ObjectId) (x : Scene) → IsScene a b x → AtMost x
at_most a b x k = in_each a b AtMost (λ y mid i t p s. stepped s 0 y mid (λ v. scenes_count a b y i v) t (p s)) (none a b) x k

pub made_at_most_once : (a b : Option ObjectId) (x : Scene) → IsScene a b x → (s : Stamp) → times_made s x.journal ≤ 1
made_at_most_once a b x k s = (made_once s x.journal 0 (numbered_in a b x k (callers.caller s))).0

pub at_one_place : CallsAreAtOnePlace
at_one_place a b x k s =
    let p = at_most a b x k s in
    let q = (made_once s x.journal 0 (numbered_in a b x k (callers.caller s))).0 in
    omega arith

-- ---- The first delivery

is_first : (h before behind : List JournalEntry) (e : JournalEntry) (a b : Option ObjectId) → ((k : Stamp) → deliveries_of k h ≤ 1) → h ≡ before ++ e ∷ behind → IfFirstDelivery (history a b before) e
is_first h before behind (entry.Delivered v d) a b f i =
    not_delivered d.stamp before
    (let p = f d.stamp in
    let q = ap (deliveries_of d.stamp) i in
    let r = entries-append d.stamp before (entry.Delivered v d ∷ behind) in
    let t : counted (same_stamp d.stamp d.stamp) ≡ 1 = ap counted (same_itself d.stamp) in
    omega arith)
is_first h before behind e a b f i = tt

pub deliveries_first : DeliveriesAreFirst
deliveries_first a b x k before behind e i = is_first x.journal before behind e a b (λ s. let p = at_one_place a b x k s in omega arith) i

-- ---- Runs

-- Deliveries are told.
as_told : (k : Stamp) (h : List JournalEntry) → deliveries_of k (telling h) ≡ deliveries_of k h
as_told k [] = refl
as_told k (entry.Delivered v d ∷ es) = let a = as_told k es in omega arith
as_told k (e ∷ es) = by (tells e) (as_told k es)
  where
    by : (b : Bool) → deliveries_of k (telling es) ≡ deliveries_of k es → deliveries_of k (cond b (e ∷ telling es) (telling es)) ≡ in_entry k e + deliveries_of k es
    by true a = omega arith
    by false a = omega arith

pub delivered_once : DeliveredOnce
delivered_once a b xs w r s =
    let x = every_run a b xs w r in
    let p = at_one_place a b x.0 x.1 s in
    let c = as_told s (journal xs) in
    let d = as_told s x.0.journal in
    let e = ap (deliveries_of s) x.2.history in
    omega arith
