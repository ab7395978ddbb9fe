-- Each act leaves a call at as many places as it found it, or the call broke: its reference leads to broken.
use Rattle.std.proofs.Common.{◌≡◌, ◌⊎◌, inl, inr, ℕ, ◌+◌, ◌≤◌, Bool, true, false, ◌&&◌, nat_eq, None, List, [], ◌∷◌, ◌++◌, refl, sym, ap, subst, arith}
use Rattle.std.specs.FinMap as map
use Rattle.finite_maps.specs.Tally.{worth}
use Rattle.finite_maps.proofs.Tallies.{tally-new, tally-remove}
use Rattle.rpc_msg.specs.declared.ids.Vat.{Vat}
use Rattle.rpc_msg.specs.declared.ids.Stamp.{Stamp}
use Rattle.rpc_msg.specs.declared.message.Message.{Message}
use Rattle.rpc_msg.specs.declared.message.Message.TheVariants as message
use Rattle.rpc_msg.specs.declared.message.PlainMessage.{PlainMessage}
use Rattle.rpc_msg.specs.declared.message.PlainMessage.TheVariants as plain
use Rattle.rpc_msg.specs.declared.message.ResolvedTo.TheVariants as resolved
use Rattle.rpc_journal.specs.declared.entry.JournalEntry.{JournalEntry}
use Rattle.rpc_journal.specs.History.{Ref, same_ref, same_stamp, caller}
use Rattle.rpc_journal.specs.Meaning.{History, Broken}
use Rattle.rpc_machine.specs.declared.node.Node.TheVariants as node
use Rattle.rpc_machine.specs.declared.node.Reason.TheVariants.{BrokenPromise}
use Rattle.rpc_machine.specs.declared.calls.WaitingCall.{WaitingCall}
use Rattle.rpc_machine.specs.declared.calls.Promise.TheVariants as promise
use Rattle.rpc_machine.specs.declared.calls.KeptOutcome.{KeptOutcome}
use Rattle.rpc_machine.specs.declared.calls.Caller.TheVariants as caller
use Rattle.rpc_machine.specs.declared.entries.Embargo.{Embargo}
use Rattle.rpc_machine.specs.declared.command.Command.{Command}
use Rattle.rpc_machine.specs.declared.command.Granted.{Granted}
use Rattle.rpc_machine.specs.declared.command.Effects.{Effects}
use Rattle.rpc_machine.specs.declared.command.Level.{Level}
use Rattle.rpc_machine.specs.declared.command.Level.TheVariants.{Zero, One}
use Rattle.rpc_machine.specs.State.{State}
use Rattle.rpc_machine.specs.Faults.{fault_of, is_foreign}
use Rattle.rpc_machine.specs.Flags.{flag_for}
use Rattle.rpc_machine.specs.Journal.{granted_entries}
use Rattle.rpc_machine.specs.Progress.{numbers}
use Rattle.rpc_machine.specs.Settling.{or_failed, resolve_message}
use Rattle.rpc_machine.specs.Steps.{Does, Handles}
use Rattle.rpc_machine.specs.Sweeping.{got_of}
use Rattle.laws_acts.specs.Moments.{Moment, beginning, held_to}
use Rattle.laws_acts.specs.FirstActs.{Starts, waiting_call, asking}
use Rattle.laws_acts.specs.FirstActs as first
use Rattle.laws_acts.specs.MessageActs.{Consumes, Back, Brings, ByReturn, ByEchoedRoot, ByEchoedCall}
use Rattle.laws_acts.specs.MessageActs as heard
use Rattle.laws_acts.specs.SmallActs.{Act, Acts, NoMore, Then, IsEnd, IsStill, kept_known, delivery}
use Rattle.laws_acts.specs.SmallActs as act
use Rattle.laws_acts.proofs.Commanded.{does}
use Rattle.laws_acts.proofs.Received.{handles}
use Rattle.laws_acts.proofs.EachStep.{at_end}
use Rattle.laws_runs.specs.MadeCalls.{NumbersItsCalls}
use Rattle.laws_runs.proofs.Reading.{same_ref_is}
use Rattle.laws_meanings.specs.OnePlace.{counted, is_call, in_held, at_promise, at_outcome, at_embargo, waiting, in_message, on_way}
use Rattle.laws_meanings.specs.NodeMeanings.{Itself, OfRef, Leads}
use Rattle.laws_meanings.specs.NodeLabels.{Labels, Means, CallAt, RoutedMean, MomentMeans}
use Rattle.laws_meanings.specs.NoneLost.{in_yet, in_deliveries, here, IsToBroken, ActsLoseNone}
use Rattle.laws_meanings.proofs.Labelled.{settles}
use Rattle.laws_meanings.proofs.ActsMean.{acts_mean}
use Rattle.laws_meanings.proofs.Placed.{one_more, one_held, way-append, deliveries-append, all_to, all_held, fitted, times_made}
use Rattle.laws_meanings.proofs.Placing.{Leaves, has_own}
use Rattle.laws_nodes.proofs.Sourced.{put, cut}

-- Calls with one stamp are of one reference.
pub one_caller : (s t : Stamp) → same_stamp s t ≡ true → caller s ≡ caller t
one_caller s t e = same_ref_is (caller s) (caller t) (by (same_ref (caller s) (caller t)) (nat_eq s.index t.index) e)
  where
    by : (a b : Bool) → (a && b) ≡ true → a ≡ true
    by true b f = refl
    by false b f = cc

module _ (h : History) (v : Vat) (l : Labels) (k : Stamp) where
  -- It is another call; or it broke.
  breaks : (c : WaitingCall) → IsToBroken h c.request.stamp → (is_call k c ≡ 0) ⊎ IsToBroken h k
  breaks c i = by (same_stamp k c.request.stamp) refl
    where
      by : (b : Bool) → same_stamp k c.request.stamp ≡ b → (counted b ≡ 0) ⊎ IsToBroken h k
      by true e = inr (subst (λ (r : Ref). Leads h (Itself Broken) (OfRef r)) (sym (one_caller k c.request.stamp e)) i)
      by false e = inl refl

  acted : (d new : Moment) → MomentMeans h v l d → Act d new → (here k d ≤ here k new) ⊎ IsToBroken h k
  acted d new i (act.Delivers c n rest u e f g) =
      rw g (inl (let y = ap (in_yet k) e in let x = deliveries-append k d.effects.deliveries (delivery d.state c u ∷ []) in omega arith))
  acted d new i (act.Waits c n rest p calls e f j g) =
      rw g (inl (let y = ap (in_yet k) e in let x = put (at_promise k) d.state.promises p (promise.Open calls) (promise.Open (calls ++ c ∷ [])) j in let z = one_more k calls c in omega arith))
  acted d new i (act.Holds c n rest u path x e f j g) =
      let w : KeptOutcome = record x { waiting = x.waiting ++ record { path = path; call = c } ∷ [] } in
      rw g (inl (let y = ap (in_yet k) e in let z = put (at_outcome k) d.state.outcomes u x w j in let b = one_held k x.waiting (record { path = path; call = c }) in omega arith))
  acted d new i (act.Relays c n rest q t ds es e f j b g) =
      rw g (inl (let y = ap (in_yet k) e in let x = way-append k d.effects.sends (message.Plain (asking q t c.request ds) ∷ []) in omega arith))
  acted d new i (act.Breaks c n rest reason e f g) = rw g (by (breaks c broken))
    where
      y : CallAt h v l n c × RoutedMean h v l rest
      y = subst (RoutedMean h v l) e i.1

      broken : IsToBroken h c.request.stamp
      broken = subst (Means h v l (OfRef (caller c.request.stamp))) f (settles h v l d.state i.0.1 i.0.3 (OfRef (caller c.request.stamp)) n y.0.2)

      by : (is_call k c ≡ 0) ⊎ IsToBroken h k → (here k d ≤ waiting k d.state + in_yet k rest + (on_way k d.effects.sends + in_deliveries k d.effects.deliveries)) ⊎ IsToBroken h k
      by (inl z) = inl (let y = ap (in_yet k) e in omega arith)
      by (inr z) = inr z
  acted d new i (act.NextArisen u w rest e f g) = rw g (inl (omega arith))
  acted d new i (act.Knows u w fit x ps e f j b g) =
      let t : KeptOutcome = kept_known x.caller fit x.waiting in
      rw g (inl (let c = put (at_outcome k) d.state.outcomes u x t f in let z = fitted k u x.caller x.waiting d.state w fit (record (d.state) { promises = ps }) b in omega arith))
  acted d new i (act.Reports c w from e f g) = rw g (inl (omega arith))
  acted d new i (act.TellsNobody c w e f g) = rw g (inl (omega arith))
  acted d new i (act.MakesReturn q w x b ds es e f j z g) = rw g (inl (omega arith))
  acted d new i (act.SendsReturn x y e f j g) = rw g (inl (let z = way-append k d.effects.sends (message.Plain (plain.Return (record { answer = x.answer; release_param_caps = flag_for d.state (numbers y.taken); body = x.body })) ∷ []) in omega arith))
  acted d new i (act.Clears x e f g) = rw g (inl (by f))
    where
      by : IsStill d.state x → here k d ≤ here k (record d { state = record (d.state) { outcomes = map.insert d.state.outcomes x.outcome (kept_known x.caller x.value []) }; yet = held_to x.outcome x.waiting })
      by (inl j) =
          let y : in_yet k d.yet ≡ 0 = ap (λ (m : Moment). in_yet k m.yet) e in
          let c = put (at_outcome k) d.state.outcomes x.outcome (kept_known x.caller x.value x.waiting) (kept_known x.caller x.value []) j in
          let z = all_held k x.outcome x.waiting in
          omega arith
      by (inr j) =
          let y : in_yet k d.yet ≡ 0 = ap (λ (m : Moment). in_yet k m.yet) e in
          let c = tally-new (at_outcome k) d.state.outcomes x.outcome (kept_known x.caller x.value []) j.0 in
          omega arith
  acted d new i (act.Lists x e g) = rw g (inl (omega arith))
  acted d new i (act.SendsResolve x rest u es e w f g) = rw g (inl (let z = way-append k d.effects.sends (message.Plain (resolve_message x.export (resolved.Cap u)) ∷ []) in omega arith))
  acted d new i (act.SendsBroken x rest reason e f g) = rw g (inl (let z = way-append k d.effects.sends (message.Plain (resolve_message x.export (resolved.Exception (or_failed x.why reason))) ∷ []) in omega arith))
  acted d new i (act.PromiseGoes p to w e f g) = rw g (inl (let x = tally-remove (at_promise k) d.state.promises p in let y = ap (worth (at_promise k)) e in omega arith))
  acted d new i (act.OutcomeGoes u x z w e f j b c g) = rw g (inl (let y = tally-remove (at_outcome k) d.state.outcomes u in let a = ap (worth (at_outcome k)) e in let m = ap (in_held k) j in omega arith))
  acted d new i (act.ImportGoes u x w e f g) = rw g (inl (omega arith))
  acted d new i (act.Sweeps over e f j g) = rw g (inl (omega arith))
  acted d new i (act.SendsFinish q x rest e f j u b g) = rw g (inl (let z = way-append k d.effects.sends (message.Plain (plain.Finish (record { question = record { 0 = q }; release_result_caps = flag_for d.state (got_of x.returned) })) ∷ []) in omega arith))
  acted d new i (act.Closes q x rest e f j b c g) = rw g (inl (omega arith))
  acted d new i (act.Releases w e f g) = rw g (inl (let z = way-append k d.effects.sends (act.release_messages (map.entries d.released)) in omega arith))

all_acted : (k : Stamp) (last : Moment) (h : History) (v : Vat) (l : Labels) (d : Moment) → Acts last d → MomentMeans h v l d → (here k d ≤ here k last) ⊎ IsToBroken h k
all_acted k last h v l d NoMore i = inl (omega arith)
all_acted k last h v l d (Then {mid = mid} a rest) i =
    let z = acts_mean h v l d mid (Then a NoMore) i in
    by (acted h v l k d mid i a) (all_acted k last h v (record l { promise = z.0 }) mid rest z.1)
  where
    by : (here k d ≤ here k mid) ⊎ IsToBroken h k → (here k mid ≤ here k last) ⊎ IsToBroken h k → (here k d ≤ here k last) ⊎ IsToBroken h k
    by (inr x) y = inr x
    by (inl x) (inr y) = inr y
    by (inl x) (inl y) = inl (omega arith)

pub lose_none : ActsLoseNone
lose_none h v l d last a i k = all_acted k last h v l d a i

-- ---- The first act

-- A command puts what it calls at a place.
module _ (j : List JournalEntry) (s : State) (v : Vat) (m : NumbersItsCalls v s j) (k : Stamp) where
  abbrev own : Command → Granted → ℕ
  own c g = times_made k (granted_entries j v c g)

  abbrev NoFewer : Command → Granted → Moment → Type 0
  NoFewer c g new = waiting k s + own c g ≤ here k new

  pub started : (c : Command) (g : Granted) (new : Moment) → Starts (beginning s) c g new → NoFewer c g new
  started c g new (first.CallsOut x y q t ds es e f i l n o a u) =
      let z = has_own j v s m c g new (first.CallsOut x y q t ds es e f i l n o a u) x y e f k in
      rw u (omega arith)
  started c g new (first.CallsHere x y w e f i l n a u) =
      let z = has_own j v s m c g new (first.CallsHere x y w e f i l n a u) x y e f k in
      let b : KeptOutcome = record { caller = caller.Application (record { 0 = s.next_call }); value = None; waiting = [] } in
      rw u (let p = tally-new (at_outcome k) s.outcomes w b n in omega arith)
  started c g new (first.CallsLater x y w q b e f i l n a u) =
      let z = has_own j v s m c g new (first.CallsLater x y w q b e f i l n a u) x y e f k in
      let d : KeptOutcome = record { caller = caller.Application (record { 0 = s.next_call }); value = None; waiting = [] } in
      let this : WaitingCall = waiting_call s x y w in
      rw u (
      let o = tally-new (at_outcome k) s.outcomes w d n in
      let p = put (at_embargo k) s.embargoes q.0 b (record b { waiting = b.waiting ++ this ∷ [] }) l in
      let r = one_more k b.waiting this in
      omega arith
      )
  started c g new (first.AsksRoot q e f a u) = let z : own c g ≡ 0 = rw (e, a) refl in rw u (omega arith)
  started c g new (first.Hosts w e a u) = let z : own c g ≡ 0 = rw (e, a) refl in rw u (omega arith)
  started c g new (first.Clones y x e f a u) = let z : own c g ≡ 0 = rw (e, a) refl in rw u (omega arith)
  started c g new (first.NamesField y path from e f a u) = let z : own c g ≡ 0 = rw (e, a) refl in rw u (omega arith)
  started c g new (first.Promises p e f a u) = let z : own c g ≡ 0 = rw (e, a) refl in rw u (let n = tally-new (at_promise k) s.promises p (promise.Open []) f in omega arith)
  started c g new (first.Drops y x e f a u) = let z : own c g ≡ 0 = rw e refl in rw u (omega arith)
  started c g new (first.Fixes p y x key calls e f i l a u) =
      let z : own c g ≡ 0 = rw e refl in
      rw u (let n = put (at_promise k) s.promises key (promise.Open calls) (promise.Fixed x.head) l in let t = all_to k (node.Promise key) calls in omega arith)
  started c g new (first.Rejects p why key calls e f i a u) =
      let z : own c g ≡ 0 = rw e refl in
      rw u (let n = put (at_promise k) s.promises key (promise.Open calls) (promise.Fixed (node.Broken BrokenPromise)) i in let t = all_to k (node.Promise key) calls in omega arith)
  started c g new (first.Answers t payload refs w e f a u) = let z : own c g ≡ 0 = rw e refl in rw u (omega arith)
  started c g new (first.Fails t why w e f a u) = let z : own c g ≡ 0 = rw e refl in rw u (omega arith)
  started c g new (first.Finishes y from e f a u) = let z : own c g ≡ 0 = rw e refl in rw u (omega arith)
  started c g new (first.StaysPut y x e f a u) = let z : own c g ≡ 0 = rw (e, a) refl in rw u (omega arith)
  started c g new (first.Breaks y x reason e f i l a u) = let z : own c g ≡ 0 = rw (e, a) refl in rw u (omega arith)
  started c g new (first.Switches y x by n e f i l o w a u) = let z : own c g ≡ 0 = rw (e, a) refl in rw u (omega arith)
  started c g new (first.Turns y x by n t b e f i l o w p q a u) =
      let z : own c g ≡ 0 = rw (e, a) refl in
      let w : Embargo = record { reference = record { 0 = y.0 }; node = n; waiting = [] } in
      rw u (let d = tally-new (at_embargo k) s.embargoes b w q in omega arith)

-- A received Call is to be routed; no other message is one.
module _ (s : State) (m : Message) (k : Stamp) where
  no_call : (b : Back) → Brings s m b → in_message k m ≡ 0
  no_call b (ByReturn r e f) = rw e refl
  no_call b (ByEchoedRoot q e f) = rw e refl
  no_call b (ByEchoedCall c e f) = rw e refl

  not_foreign : (l : Level) (p : PlainMessage) → is_foreign l p ≡ true → in_message k (message.Plain p) ≡ 0
  not_foreign One p e = cc
  not_foreign Zero (plain.Call c) e = cc
  not_foreign Zero (plain.Abort exception) e = refl
  not_foreign Zero (plain.Bootstrap q) e = refl
  not_foreign Zero (plain.Return r) e = refl
  not_foreign Zero (plain.Finish f) e = refl
  not_foreign Zero (plain.Resolve r) e = refl
  not_foreign Zero (plain.Release r) e = refl
  not_foreign Zero (plain.Disembargo d) e = refl
  not_foreign Zero (plain.Other n) e = refl

  abbrev Still : Moment → Type 0
  Still new = waiting k s + in_message k m ≤ here k new

  pub consumed : (new : Moment) → Consumes (beginning s) m new → Still new
  consumed new (heard.OpensRoot q o e f j u) =
      let z = ap (in_message k) e in
      let b : KeptOutcome = record { caller = caller.Peer q; value = None; waiting = [] } in
      rw u (let n = tally-new (at_outcome k) s.outcomes o b j in omega arith)
  consumed new (heard.OpensCall c o e f j u) =
      let z = ap (in_message k) e in
      let b : KeptOutcome = record { caller = caller.Peer c.question; value = None; waiting = [] } in
      rw u (let n = tally-new (at_outcome k) s.outcomes o b j in omega arith)
  consumed new (heard.Loses b x e f j l u) = let z = no_call b e in rw u (omega arith)
  consumed new (heard.ComesToCall b x c e f j l y u) = let z = no_call b e in rw u (omega arith)
  consumed new (heard.ComesToRelay b x o e f j l y u) = let z = no_call b e in rw u (omega arith)
  consumed new (heard.IsFinished x z e f j u) = let y = ap (in_message k) e in rw u (omega arith)
  consumed new (heard.IsResolved r e u) = let y = ap (in_message k) e in rw u (omega arith)
  consumed new (heard.IsReleased r e u) = let y = ap (in_message k) e in rw u (omega arith)
  consumed new (heard.SendsBack t to x e f u) = let y = ap (in_message k) e in rw u (omega arith)
  consumed new (heard.Lifts t x b e f u) =
      let y = ap (in_message k) e in
      rw u (let n = cut (at_embargo k) s.embargoes x.0 b f in let z = all_to k b.node b.waiting in omega arith)
  consumed new (heard.SendsForeign p e f u) = let y = ap (in_message k) e in let z = not_foreign s.level p f in rw u (omega arith)
  consumed new (heard.SendsOther n e u) = let y = ap (in_message k) e in rw u (omega arith)
  consumed new (heard.TakesBack r e u) = let y = ap (in_message k) e in rw u (omega arith)
  consumed new (heard.Ignores r e u) = let y = ap (in_message k) e in rw u (omega arith)

-- ---- Steps

module _ (h : History) (v : Vat) (k : Stamp) where
  -- Nodes mean what a history says of which h is more.
  abbrev Begun : Moment → Type 0
  Begun d = (e : History) × (l : Labels) × MomentMeans e v l d × (IsToBroken e k → IsToBroken h k)

  -- What is there at the end, the step leaves.
  left : (last : Moment) (x : Effects) (t : State) (n : ℕ) → IsEnd last x t → n ≤ here k last → n ≤ Leaves k t x
  left last x t n e i =
      let y : in_yet k last.yet ≡ 0 = ap (λ (m : Moment). in_yet k m.yet) e.rest in
      at_end (λ u z. n ≤ Leaves k u z) last x t e (omega arith)

  through : (d last : Moment) (x : Effects) (t : State) (n : ℕ) → Acts last d → Begun d → IsEnd last x t → n ≤ here k d → (n ≤ Leaves k t x) ⊎ IsToBroken h k
  through d last x t n a i e low = by (all_acted k last i.0 v i.1 d a i.2)
    where
      by : (here k d ≤ here k last) ⊎ IsToBroken i.0 k → (n ≤ Leaves k t x) ⊎ IsToBroken h k
      by (inl y) = inl (left last x t n e (omega arith))
      by (inr y) = inr (i.3 y)

  pub commands : (j : List JournalEntry) (s : State) (c : Command) (g : Granted) (x : Effects) (t : State) → NumbersItsCalls v s j → ((d : Moment) → Starts (beginning s) c g d → Begun d) → Does s c g x t
      → (waiting k s + times_made k (granted_entries j v c g) ≤ Leaves k t x) ⊎ IsToBroken h k
  commands j s c g x t m b d =
      let a = does s c g x t d in
      through a.started a.last x t (waiting k s + times_made k (granted_entries j v c g)) a.acts (b a.started a.starts) a.ends (started j s v m k c g a.started a.starts)

  pub messages : (s : State) (m : Message) (x : Effects) (t : State) → fault_of s m ≡ None → ((d : Moment) → Consumes (beginning s) m d → Begun d) → Handles s m x t → (waiting k s + in_message k m ≤ Leaves k t x) ⊎ IsToBroken h k
  messages s m x t f b d =
      let a = handles s m x t f d in
      through a.consumed a.last x t (waiting k s + in_message k m) a.acts (b a.consumed a.consumes) a.ends (consumed s m k a.consumed a.consumes)
