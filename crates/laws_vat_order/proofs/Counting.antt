-- At how many places a call waits, or is still to be routed: no act makes it more, but the first act of a new call.
use Rattle.std.proofs.Common.{◌≡◌, inl, inr, ℕ, ◌+◌, ◌≤◌, Bool, true, false, nat_eq, List, [], ◌∷◌, ◌++◌, None, refl, sym, ap, subst, ◌∙◌, arith}
use Rattle.std.specs.FinMap as map
use Rattle.finite_maps.specs.Tally.{tally}
use Rattle.finite_maps.proofs.Tallies.{tally-new}
use Rattle.rpc_msg.specs.Payloads.{Contents as Payload}
use Rattle.rpc_msg.specs.declared.message.Message.{Message}
use Rattle.rpc_machine.specs.declared.node.Node.{Node}
use Rattle.rpc_machine.specs.declared.node.Node.TheVariants as node
use Rattle.rpc_machine.specs.declared.node.Reason.TheVariants.{BrokenPromise}
use Rattle.rpc_machine.specs.declared.command.Command.{Command}
use Rattle.rpc_machine.specs.declared.command.Granted.{Granted}
use Rattle.rpc_machine.specs.declared.calls.WaitingCall.{WaitingCall}
use Rattle.rpc_machine.specs.declared.calls.HeldCall.{HeldCall}
use Rattle.rpc_machine.specs.declared.calls.Promise.TheVariants as promise
use Rattle.rpc_machine.specs.declared.calls.KeptOutcome.{KeptOutcome}
use Rattle.rpc_machine.specs.declared.calls.Value.{Value}
use Rattle.rpc_machine.specs.declared.calls.Value.TheVariants as value
use Rattle.rpc_machine.specs.declared.calls.Caller.{Caller}
use Rattle.rpc_machine.specs.declared.calls.Caller.TheVariants as caller
use Rattle.rpc_machine.specs.declared.entries.Embargo.{Embargo}
use Rattle.rpc_machine.specs.State.{State}
use Rattle.rpc_machine.specs.Settling.{PutsIn, Untangles, Fits}
use Rattle.laws_acts.specs.Moments.{Moment, beginning, each_to, held_to}
use Rattle.laws_acts.specs.FirstActs.{Starts}
use Rattle.laws_acts.specs.FirstActs as first
use Rattle.laws_acts.specs.MessageActs.{Consumes}
use Rattle.laws_acts.specs.MessageActs as message
use Rattle.laws_acts.specs.SmallActs.{IsStill, kept_known, Act}
use Rattle.laws_acts.specs.SmallActs as act
use Rattle.laws_nodes.specs.Ones.{one_if}
use Rattle.laws_nodes.specs.Sources.{is_key, calls_for, held_for, at_promise, at_outcome, at_embargo}
use Rattle.laws_nodes.proofs.Sourced.{put, cut}
use Rattle.finite_maps.proofs.Tested.{equal}
use Rattle.laws_vat_order.specs.Lines.{times_waiting}

-- ---- Lists

one_more : (o : ℕ) (cs : List WaitingCall) (c : WaitingCall) → calls_for o (cs ++ c ∷ []) ≡ calls_for o cs + is_key o c.outcome
one_more o [] c = omega arith
one_more o (x ∷ xs) c = let a = one_more o xs c in omega arith

one_held : (o : ℕ) (hs : List HeldCall) (h : HeldCall) → held_for o (hs ++ h ∷ []) ≡ held_for o hs + is_key o h.call.outcome
one_held o [] h = omega arith
one_held o (x ∷ xs) h = let a = one_held o xs h in omega arith

abbrev pub yet_for : ℕ → List (WaitingCall × Node) → ℕ
yet_for o [] = 0
yet_for o (x ∷ xs) = is_key o x.0.outcome + yet_for o xs

all_to : (o : ℕ) (n : Node) (cs : List WaitingCall) → yet_for o (each_to n cs) ≡ calls_for o cs
all_to o n [] = refl
all_to o n (c ∷ cs) = ap (λ k. is_key o c.outcome + k) (all_to o n cs)

all_held : (o k : ℕ) (hs : List HeldCall) → yet_for o (held_to k hs) ≡ held_for o hs
all_held o k [] = refl
all_held o k (h ∷ hs) = ap (λ j. is_key o h.call.outcome + j) (all_held o k hs)

-- ---- A value that fits

module _ (o : ℕ) (who : Caller) (w : List HeldCall) (j : ℕ) where
  put_promises : (payload : Payload) (s : State) (i : ℕ) (n : Node) (rest out : List Node) (new : State) → PutsIn s o who w payload i n rest out new → tally (at_promise j) new.promises ≡ tally (at_promise j) s.promises
  put_promises payload s i n rest out new (inl h) = rw h.2 refl
  put_promises payload s i n rest out new (inr h) = let g = h.1 in let a = tally-new (at_promise j) s.promises g.0 (promise.Open []) g.1 in rw g.3 (omega arith)

  untangled : (payload : Payload) (s : State) (i : ℕ) (ns out : List Node) (new : State) → Untangles s o who w payload i ns out new → tally (at_promise j) new.promises ≡ tally (at_promise j) s.promises
  untangled payload s i [] out new h = rw h.1 refl
  untangled payload s i (n ∷ ns) out new h = put_promises payload h.1 i n h.0 out new h.3 ∙ untangled payload s (i + 1) ns h.0 h.1 h.2

  fitted : (s : State) (v fit : Value) (new : State) → Fits s o who w v fit new → tally (at_promise j) new.promises ≡ tally (at_promise j) s.promises
  fitted s (value.Exception x) fit new h = rw h.1 refl
  fitted s (value.Results payload ns) fit new h = untangled payload s 0 ns h.0 new h.2

-- ---- Each act

-- At how many places the call waits, and how often it is still to be routed.
abbrev pub all_waiting : ℕ → Moment → ℕ
all_waiting a d = times_waiting a d.state + yet_for a d.yet

pub no_more : (o : ℕ) (d new : Moment) → Act d new → all_waiting o new ≤ all_waiting o d
no_more o d new (act.Delivers c n rest u e f h) = rw h (let y = ap (yet_for o) e in omega arith)
no_more o d new (act.Waits c n rest p calls e f j h) =
    rw h (let y = ap (yet_for o) e in let x = put (at_promise o) d.state.promises p (promise.Open calls) (promise.Open (calls ++ c ∷ [])) j in let z = one_more o calls c in omega arith)
no_more o d new (act.Holds c n rest u path x e f j h) =
    let w : KeptOutcome = record x { waiting = x.waiting ++ record { path = path; call = c } ∷ [] } in
    rw h (let y = ap (yet_for o) e in let z = put (at_outcome o) d.state.outcomes u x w j in let v = one_held o x.waiting (record { path = path; call = c }) in omega arith)
no_more o d new (act.Relays c n rest q t ds es e f j k h) = rw h (let y = ap (yet_for o) e in omega arith)
no_more o d new (act.Breaks c n rest reason e f h) = rw h (let y = ap (yet_for o) e in omega arith)
no_more o d new (act.NextArisen u v rest e f h) = rw h (omega arith)
no_more o d new (act.Knows u v fit x ps e f j k h) =
    let w : KeptOutcome = kept_known x.caller fit x.waiting in
    rw h (let c = put (at_outcome o) d.state.outcomes u x w f in let z = fitted u x.caller x.waiting o d.state v fit (record (d.state) { promises = ps }) k in omega arith)
no_more o d new (act.Reports c v from e f h) = rw h (omega arith)
no_more o d new (act.TellsNobody c v e f h) = rw h (omega arith)
no_more o d new (act.MakesReturn q v x b ds es e f j k h) = rw h (omega arith)
no_more o d new (act.SendsReturn x y e f j h) = rw h (omega arith)
no_more o d new (act.Clears x e f h) = rw h (by f)
  where
    by : IsStill d.state x → all_waiting o (record d {
      state = record (d.state) { outcomes = map.insert d.state.outcomes x.outcome (kept_known x.caller x.value []) };
      yet = held_to x.outcome x.waiting;
    }) ≤ all_waiting o d
    by (inl g) =
        let w : KeptOutcome = kept_known x.caller x.value [] in
        let c = put (at_outcome o) d.state.outcomes x.outcome (kept_known x.caller x.value x.waiting) w g in
        let z = all_held o x.outcome x.waiting in
        omega arith
    by (inr g) =
        let w : KeptOutcome = kept_known x.caller x.value [] in
        let c = tally-new (at_outcome o) d.state.outcomes x.outcome w g.0 in
        let z = all_held o x.outcome x.waiting in
        let n : held_for o x.waiting ≡ 0 = ap (held_for o) g.1 in
        omega arith
no_more o d new (act.Lists x e h) = rw h (omega arith)
no_more o d new (act.SendsResolve x rest k es e w f h) = rw h (omega arith)
no_more o d new (act.SendsBroken x rest reason e f h) = rw h (omega arith)
no_more o d new (act.PromiseGoes p to w e f h) = rw h (let x = cut (at_promise o) d.state.promises p (promise.Fixed to) e in omega arith)
no_more o d new (act.OutcomeGoes u x v w e f j k l h) = rw h (let y = cut (at_outcome o) d.state.outcomes u x e in omega arith)
no_more o d new (act.ImportGoes k x w e f h) = rw h (omega arith)
no_more o d new (act.Sweeps over e f j h) = rw h (omega arith)
no_more o d new (act.SendsFinish q x rest e f j k l h) = rw h (omega arith)
no_more o d new (act.Closes q x rest e f j k l h) = rw h (omega arith)
no_more o d new (act.Releases w e f h) = rw h (omega arith)

-- ---- First acts

-- A call waits at one place at most, and nowhere if it has no outcome.
abbrev pub IsOnce : ℕ → State → Type 0
IsOnce o s = (times_waiting o s ≤ 1) × (map.get s.outcomes o ≡ None → times_waiting o s ≡ 0)

opens : (o u : ℕ) (s : State) → map.get s.outcomes u ≡ None → IsOnce o s → times_waiting o s + is_key o u ≤ 1
opens o u s e i = by (nat_eq o u) refl
  where
    by : (b : Bool) → nat_eq o u ≡ b → times_waiting o s + one_if (nat_eq o u) ≤ 1
    by true f = let z = i.1 (subst (λ (k : ℕ). map.get s.outcomes k ≡ None) (sym (equal o u f)) e) in let g : one_if (nat_eq o u) ≡ 1 = ap one_if f in omega arith
    by false f = let z = i.0 in let g : one_if (nat_eq o u) ≡ 0 = ap one_if f in omega arith

pub started : (o : ℕ) (s : State) (c : Command) (g : Granted) (new : Moment) → Starts (beginning s) c g new → IsOnce o s → all_waiting o new ≤ 1
started o s c g new (first.Hosts u e a h) i = let z = i.0 in rw h (omega arith)
started o s c g new (first.Clones r x e f a h) i = let z = i.0 in rw h (omega arith)
started o s c g new (first.Drops r x e f a h) i = let z = i.0 in rw h (omega arith)
started o s c g new (first.AsksRoot q e f a h) i = let z = i.0 in rw h (omega arith)
started o s c g new (first.CallsOut k x q t ds es e f j w l m a h) i = let z = i.0 in rw h (omega arith)
started o s c g new (first.CallsHere k x u e f j w l a h) i =
    let y : KeptOutcome = record { caller = caller.Application (record { 0 = s.next_call }); value = None; waiting = [] } in
    rw h (let z = opens o u s l i in let n = tally-new (at_outcome o) s.outcomes u y l in omega arith)
started o s c g new (first.CallsLater k x u z b e f j l m a h) i =
    let y : KeptOutcome = record { caller = caller.Application (record { 0 = s.next_call }); value = None; waiting = [] } in
    let call : WaitingCall = first.waiting_call s k x u in
    rw h (let p = opens o u s m i in let n = tally-new (at_outcome o) s.outcomes u y m in
    let v = put (at_embargo o) s.embargoes z.0 b (record b { waiting = b.waiting ++ call ∷ [] }) l in let w = one_more o b.waiting call in omega arith)
started o s c g new (first.NamesField k path from e f a h) i = let z = i.0 in rw h (omega arith)
started o s c g new (first.Promises p e f a h) i = rw h (let z = i.0 in let n = tally-new (at_promise o) s.promises p (promise.Open []) f in omega arith)
started o s c g new (first.Fixes p r x key calls e f j k a h) i =
    rw h (let z = i.0 in let n = put (at_promise o) s.promises key (promise.Open calls) (promise.Fixed x.head) k in let t = all_to o (node.Promise key) calls in omega arith)
started o s c g new (first.Rejects p why key calls e f j a h) i =
    rw h (let z = i.0 in let n = put (at_promise o) s.promises key (promise.Open calls) (promise.Fixed (node.Broken BrokenPromise)) j in let t = all_to o (node.Promise key) calls in omega arith)
started o s c g new (first.Answers t payload refs u e f a h) i = let z = i.0 in rw h (omega arith)
started o s c g new (first.Fails t why u e f a h) i = let z = i.0 in rw h (omega arith)
started o s c g new (first.Finishes k from e f a h) i = let z = i.0 in rw h (omega arith)
started o s c g new (first.StaysPut r x e f a h) i = let z = i.0 in rw h (omega arith)
started o s c g new (first.Breaks r x reason e f j k a h) i = let z = i.0 in rw h (omega arith)
started o s c g new (first.Switches r x by n e f j k l m a h) i = let z = i.0 in rw h (omega arith)
started o s c g new (first.Turns r x by n t k e f j l m w u v a h) i =
    let b : Embargo = record { reference = record { 0 = r.0 }; node = n; waiting = [] } in
    rw h (let z = i.0 in let y = tally-new (at_embargo o) s.embargoes k b v in omega arith)

pub consumed : (o : ℕ) (s : State) (m : Message) (new : Moment) → Consumes (beginning s) m new → IsOnce o s → all_waiting o new ≤ 1
consumed o s m new (message.OpensRoot q u e f j h) i =
    let y : KeptOutcome = record { caller = caller.Peer q; value = None; waiting = [] } in
    rw h (let z = i.0 in let n = tally-new (at_outcome o) s.outcomes u y j in omega arith)
consumed o s m new (message.OpensCall c u e f j h) i =
    let y : KeptOutcome = record { caller = caller.Peer c.question; value = None; waiting = [] } in
    rw h (let z = opens o u s j i in let n = tally-new (at_outcome o) s.outcomes u y j in omega arith)
consumed o s m new (message.Loses b x e f j k h) i = let z = i.0 in rw h (omega arith)
consumed o s m new (message.ComesToCall b x c e f j k l h) i = let z = i.0 in rw h (omega arith)
consumed o s m new (message.ComesToRelay b x u e f j k l h) i = let z = i.0 in rw h (omega arith)
consumed o s m new (message.IsFinished x y e f j h) i = let z = i.0 in rw h (omega arith)
consumed o s m new (message.IsResolved r e h) i = let z = i.0 in rw h (omega arith)
consumed o s m new (message.IsReleased r e h) i = let z = i.0 in rw h (omega arith)
consumed o s m new (message.SendsBack t to x e f h) i = let z = i.0 in rw h (omega arith)
consumed o s m new (message.Lifts t x b e f h) i =
    rw h (let z = i.0 in let n = cut (at_embargo o) s.embargoes x.0 b f in let t = all_to o b.node b.waiting in omega arith)
consumed o s m new (message.SendsForeign p e f h) i = let z = i.0 in rw h (omega arith)
consumed o s m new (message.SendsOther n e h) i = let z = i.0 in rw h (omega arith)
consumed o s m new (message.TakesBack r e h) i = let z = i.0 in rw h (omega arith)
consumed o s m new (message.Ignores r e h) i = let z = i.0 in rw h (omega arith)
