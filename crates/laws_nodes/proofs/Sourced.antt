-- Each act keeps that each outcome that is not known has one source; within a step also an outcome that comes next, or
-- arose, or a call that is still to be routed.
use Rattle.std.proofs.Common.{◌≡◌, ◌⊎◌, inl, inr, ℕ, ◌+◌, ◌≤◌, Bool, true, false, cond, List, [], ◌∷◌, ◌++◌, Option, None, Some, refl, sym, ap, subst, ◌∙◌, arith}
use Rattle.std.specs.Ordering.{nat_cmp}
use Rattle.std.specs.FinMap as map
use Rattle.finite_maps.specs.Tally.{Map, tally}
use Rattle.finite_maps.proofs.Tallies.{tally-empty, tally-new, tally-split, tally-insert}
use Rattle.rpc_msg.specs.Payloads.{Contents as Payload}
use Rattle.rpc_msg.specs.declared.message.Message.{Message}
use Rattle.rpc_msg.specs.declared.ids.Vat.{Vat}
use Rattle.rpc_msg.specs.declared.ids.ObjectId.{ObjectId}
use Rattle.rpc_machine.specs.declared.command.Level.{Level}
use Rattle.rpc_machine.specs.declared.node.Node.{Node}
use Rattle.rpc_machine.specs.declared.node.Node.TheVariants as node
use Rattle.rpc_machine.specs.declared.command.Command.{Command}
use Rattle.rpc_machine.specs.declared.command.Granted.{Granted}
use Rattle.rpc_machine.specs.declared.command.Effects.{Effects}
use Rattle.rpc_machine.specs.declared.calls.WaitingCall.{WaitingCall}
use Rattle.rpc_machine.specs.declared.calls.HeldCall.{HeldCall}
use Rattle.rpc_machine.specs.declared.calls.Promise.TheVariants as promise
use Rattle.rpc_machine.specs.declared.calls.KeptOutcome.{KeptOutcome}
use Rattle.rpc_machine.specs.declared.calls.Value.{Value}
use Rattle.rpc_machine.specs.declared.calls.Value.TheVariants as value
use Rattle.rpc_machine.specs.declared.calls.Caller.{Caller}
use Rattle.rpc_machine.specs.declared.calls.Caller.TheVariants as caller
use Rattle.rpc_machine.specs.declared.node.Reason.TheVariants.{BrokenPromise}
use Rattle.rpc_machine.specs.Routing.{failed, reason_text}
use Rattle.rpc_machine.specs.declared.entries.Role.{Role}
use Rattle.rpc_machine.specs.declared.entries.Role.TheVariants as role
use Rattle.rpc_machine.specs.declared.entries.Returned.{Returned}
use Rattle.rpc_machine.specs.declared.entries.Finishing.{Finishing}
use Rattle.rpc_machine.specs.declared.entries.Finishing.TheVariants as finishing
use Rattle.rpc_machine.specs.declared.entries.Question.{Question}
use Rattle.rpc_machine.specs.declared.entries.Embargo.{Embargo}
use Rattle.rpc_machine.specs.State.{State, start}
use Rattle.rpc_machine.specs.Settling.{PutsIn, Untangles, Fits}
use Rattle.rpc_machine.specs.Sweeping.{IsNotSent, closed_map}
use Rattle.rpc_machine.specs.Messages.{waived}
use Rattle.laws_steps.specs.NodesThere.{IsReached}
use Rattle.laws_steps.proofs.Kept.{in_each}
use Rattle.laws_acts.specs.Moments.{Moment, beginning, each_to, held_to}
use Rattle.laws_acts.specs.FirstActs.{Starts}
use Rattle.laws_acts.specs.FirstActs as first
use Rattle.laws_acts.specs.MessageActs.{Back, Brings, answered, Consumes}
use Rattle.laws_acts.specs.MessageActs as message
use Rattle.laws_acts.specs.SmallActs.{IsDue, IsStill, kept_known, Act, IsEnd}
use Rattle.laws_acts.specs.SmallActs as act
use Rattle.laws_acts.proofs.EachStep.{IsLaw, of_each_step}
use Rattle.laws_nodes.specs.Ones.{one_if}
use Rattle.laws_nodes.specs.Sources.{is_key, calls_for, held_for, at_promise, at_outcome, at_embargo, relay_for, at_question, sources, unknown, waits_for, RoleUnsent, IsUnsent, HasOneSource}
use Rattle.finite_maps.proofs.Tested.{itself, at_put, at_cut}
use Rattle.finite_maps.proofs.Coming.{next_given, none_without}

-- ---- Sums

pub put : {X : Type 0} (f : X → ℕ) (m : Map X) (k : ℕ) (x y : X) → map.get m k ≡ Some x → tally f (map.insert m k y) + f x ≡ f y + tally f m
put f m k x y e = let a = tally-insert f m k y in let b = tally-split f m k x e in omega arith

pub cut : {X : Type 0} (f : X → ℕ) (m : Map X) (k : ℕ) (x : X) → map.get m k ≡ Some x → tally f (map.remove m k) + f x ≡ tally f m
cut f m k x e = let b = tally-split f m k x e in omega arith

one_more : (o : ℕ) (cs : List WaitingCall) (c : WaitingCall) → calls_for o (cs ++ c ∷ []) ≡ calls_for o cs + is_key o c.outcome
one_more o [] c = omega arith
one_more o (x ∷ xs) c = let a = one_more o xs c in omega arith

one_held : (o : ℕ) (hs : List HeldCall) (h : HeldCall) → held_for o (hs ++ h ∷ []) ≡ held_for o hs + is_key o h.call.outcome
one_held o [] h = omega arith
one_held o (x ∷ xs) h = let a = one_held o xs h in omega arith

plus_nothing : (n : ℕ) → n + 0 ≡ n
plus_nothing n = omega arith

nothing_plus : (n : ℕ) → n ≡ 0 + n
nothing_plus n = omega arith

-- ---- What a step still owes

abbrev later : ℕ → List (ℕ × Value) → ℕ
later o [] = 0
later o (x ∷ xs) = is_key o x.0 + later o xs

abbrev yet_for : ℕ → List (WaitingCall × Node) → ℕ
yet_for o [] = 0
yet_for o (x ∷ xs) = is_key o x.0.outcome + yet_for o xs

later_more : (o k : ℕ) (v : Value) (xs : List (ℕ × Value)) → later o (xs ++ (k, v) ∷ []) ≡ later o xs + is_key o k
later_more o k v [] = omega arith
later_more o k v (x ∷ xs) = let a = later_more o k v xs in omega arith

all_to : (o : ℕ) (n : Node) (cs : List WaitingCall) → yet_for o (each_to n cs) ≡ calls_for o cs
all_to o n [] = refl
all_to o n (c ∷ cs) = ap (λ k. is_key o c.outcome + k) (all_to o n cs)

all_held : (o k : ℕ) (hs : List HeldCall) → yet_for o (held_to k hs) ≡ held_for o hs
all_held o k [] = refl
all_held o k (h ∷ hs) = ap (λ j. is_key o h.call.outcome + j) (all_held o k hs)

abbrev Sourced : State → List (ℕ × Value) → List (ℕ × Value) → List (WaitingCall × Node) → Type 0
Sourced s arisen coming yet = (o : ℕ) → waits_for (map.get s.outcomes o) ≡ sources o s + (later o arisen + later o coming + yet_for o yet)

abbrev Unsent : Map Question → Type 0
Unsent m = (q : ℕ) → IsUnsent (map.get m q)

abbrev Fresh : Map ℕ → ℕ → Type 0
Fresh m next = (k : ℕ) → next ≤ k → map.get m k ≡ None

abbrev Fine : Moment → Type 0
Fine d = Sourced d.state d.arisen d.coming d.yet × Unsent d.state.questions × Fresh d.state.tasks d.state.next_task

-- ---- Tables

unsent_put : (m : Map Question) (k : ℕ) (x : Question) → RoleUnsent x.role x.finish → Unsent m → Unsent (map.insert m k x)
unsent_put m k x h f = at_put (λ q o. IsUnsent o) m k x h (λ q e. f q)

unsent_cut : (m : Map Question) (k : ℕ) → Unsent m → Unsent (map.remove m k)
unsent_cut m k f = at_cut (λ q o. IsUnsent o) m k tt (λ q e. f q)

-- Whether an outcome is there and not known.
waits_put : (m : Map KeptOutcome) (k : ℕ) (y : KeptOutcome) (o : ℕ) → waits_for (map.get m k) ≡ unknown y.value → waits_for (map.get (map.insert m k y) o) ≡ waits_for (map.get m o)
waits_put m k y o h = at_put (λ j x. waits_for x ≡ waits_for (map.get m j)) m k y (sym h) (λ j e. refl) o

waits_new : (m : Map KeptOutcome) (k : ℕ) (y : KeptOutcome) (o : ℕ) → map.get m k ≡ None → y.value ≡ None → waits_for (map.get (map.insert m k y) o) ≡ is_key o k + waits_for (map.get m o)
waits_new m k y o h g =
    at_put (λ j x. waits_for x ≡ is_key j k + waits_for (map.get m j)) m k y
    (ap unknown g ∙ sym (ap (λ b. one_if b + waits_for (map.get m k)) (itself k) ∙ ap (λ x. 1 + waits_for x) h))
    (λ j e. nothing_plus (waits_for (map.get m j)) ∙ sym (ap (λ b. one_if b + waits_for (map.get m j)) e))
    o

waits_known : (m : Map KeptOutcome) (k : ℕ) (x y : KeptOutcome) (v : Value) (o : ℕ) → map.get m k ≡ Some x → x.value ≡ None → y.value ≡ Some v → waits_for (map.get (map.insert m k y) o) + is_key o k ≡ waits_for (map.get m o)
waits_known m k x y v o h g w =
    at_put (λ j z. waits_for z + is_key j k ≡ waits_for (map.get m j)) m k y
    (ap (λ b. unknown y.value + one_if b) (itself k) ∙ ap (λ z. unknown z + 1) w ∙ sym (ap waits_for h ∙ ap unknown g))
    (λ j e. ap (λ b. waits_for (map.get m j) + one_if b) e ∙ plus_nothing (waits_for (map.get m j)))
    o

waits_cut : (m : Map KeptOutcome) (k : ℕ) (o : ℕ) → waits_for (map.get m k) ≡ 0 → waits_for (map.get (map.remove m k) o) ≡ waits_for (map.get m o)
waits_cut m k o h = at_cut (λ j x. waits_for x ≡ waits_for (map.get m j)) m k (sym h) (λ j e. refl) o

-- ---- The promises of a value that fits hold no calls

module _ (o : ℕ) (who : Caller) (w : List HeldCall) (j : ℕ) where
  put_promises : (payload : Payload) (s : State) (i : ℕ) (n : Node) (rest out : List Node) (new : State) → PutsIn s o who w payload i n rest out new → tally (at_promise j) new.promises ≡ tally (at_promise j) s.promises
  put_promises payload s i n rest out new (inl h) = rw h.2 refl
  put_promises payload s i n rest out new (inr h) = let g = h.1 in let a = tally-new (at_promise j) s.promises g.0 (promise.Open []) g.1 in rw g.3 (omega arith)

  untangled : (payload : Payload) (s : State) (i : ℕ) (ns out : List Node) (new : State) → Untangles s o who w payload i ns out new → tally (at_promise j) new.promises ≡ tally (at_promise j) s.promises
  untangled payload s i [] out new h = rw h.1 refl
  untangled payload s i (n ∷ ns) out new h = put_promises payload h.1 i n h.0 out new h.3 ∙ untangled payload s (i + 1) ns h.0 h.1 h.2

  fitted : (s : State) (v fit : Value) (new : State) → Fits s o who w v fit new → tally (at_promise j) new.promises ≡ tally (at_promise j) s.promises
  fitted s (value.Exception x) fit new h = rw h.1 refl
  fitted s (value.Results payload ns) fit new h = untangled payload s 0 ns h.0 new h.2

-- ---- Questions

sent_direct : (o : ℕ) (x : Question) (r : Role) → x.role ≡ r → RoleUnsent x.role x.finish → x.finish ≡ finishing.Sent → at_question o x ≡ 0
sent_direct o x (role.Direct c) e h f = ap (λ (k : Role). relay_for o k x.returned) e
sent_direct o x (role.Relay k) e h f = absurd (subst IsNotSent f (subst (λ (k : Role). RoleUnsent k x.finish) e h))

due_none : (o : ℕ) (s : State) (r : Role) (b : Option Returned) → IsDue s r b → relay_for o r b ≡ 0
due_none o s (role.Direct c) b h = refl
due_none o s (role.Relay k) None h = absurd (let f : false ≡ true = h in cc)
due_none o s (role.Relay k) (Some said) h = refl

due_unsent : (s : State) (r : Role) (f : Finishing) → IsDue s r None → RoleUnsent r f
due_unsent s (role.Direct c) f h = tt
due_unsent s (role.Relay k) f h = absurd (let g : false ≡ true = h in cc)

-- What is closed was no source.
closed_same : (o : ℕ) (s : State) (m : Map Question) (q : ℕ) (x : Question) (b : Option Returned) → x.returned ≡ b → map.get m q ≡ Some x → IsDue s x.role x.returned → tally (at_question o) (closed_map m q x b) ≡ tally (at_question o) m
closed_same o s m q x None e f h =
    let a = put (at_question o) m q x (record x { finish = finishing.Sent }) f in
    omega arith
closed_same o s m q x (Some said) e f h =
    let a = cut (at_question o) m q x f in
    let b : at_question o x ≡ 0 = due_none o s x.role x.returned h in
    omega arith

closed_unsent : (s : State) (m : Map Question) (q : ℕ) (x : Question) (b : Option Returned) → x.returned ≡ b → IsDue s x.role x.returned → Unsent m → Unsent (closed_map m q x b)
closed_unsent s m q x None e h f = unsent_put m q (record x { finish = finishing.Sent }) (due_unsent s x.role finishing.Sent (subst (λ (b : Option Returned). IsDue s x.role b) e h)) f
closed_unsent s m q x (Some said) e h f = unsent_cut m q f

-- ---- The acts

started : (s : State) (c : Command) (g : Granted) (new : Moment) → Starts (beginning s) c g new → Fine (beginning s) → Fine new
started s c g new (first.Hosts o e a h) i = rw h i
started s c g new (first.Clones r x e f a h) i = rw h i
started s c g new (first.Drops r x e f a h) i = rw h i
started s c g new (first.AsksRoot q e f a h) i =
    rw h (
      λ o. let b = i.0 o in let x = tally-new (at_question o) s.questions q (first.asked (role.Direct (record { 0 = s.next_call })) []) f in omega arith,
      unsent_put s.questions q (first.asked (role.Direct (record { 0 = s.next_call })) []) tt i.1,
      i.2,
    )
started s c g new (first.CallsOut k x q t ds es e f j w l m a h) i =
    rw h (
      λ o. let b = i.0 o in let y = tally-new (at_question o) s.questions q (first.asked (role.Direct (record { 0 = s.next_call })) ds) l in omega arith,
      unsent_put s.questions q (first.asked (role.Direct (record { 0 = s.next_call })) ds) tt i.1,
      i.2,
    )
started s c g new (first.CallsHere k x u e f j w l a h) i =
    let y : KeptOutcome = record { caller = caller.Application (record { 0 = s.next_call }); value = None; waiting = [] } in
    rw h (
      λ o. let b = i.0 o in let d = waits_new s.outcomes u y o l refl in let n = tally-new (at_outcome o) s.outcomes u y l in omega arith,
      i.1,
      i.2,
    )
started s c g new (first.CallsLater k x u z b e f j l m a h) i =
    let y : KeptOutcome = record { caller = caller.Application (record { 0 = s.next_call }); value = None; waiting = [] } in
    let call : WaitingCall = first.waiting_call s k x u in
    rw h (
      λ o. let p = i.0 o in let d = waits_new s.outcomes u y o m refl in let n = tally-new (at_outcome o) s.outcomes u y m in
          let v = put (at_embargo o) s.embargoes z.0 b (record b { waiting = b.waiting ++ call ∷ [] }) l in let w = one_more o b.waiting call in omega arith,
      i.1,
      i.2,
    )
started s c g new (first.NamesField k path from e f a h) i = rw h i
started s c g new (first.Promises p e f a h) i = rw h (λ o. let b = i.0 o in let n = tally-new (at_promise o) s.promises p (promise.Open []) f in omega arith, i.1, i.2)
started s c g new (first.Fixes p r x key calls e f j k a h) i =
    rw h (λ o. let b = i.0 o in let n = put (at_promise o) s.promises key (promise.Open calls) (promise.Fixed x.head) k in let t = all_to o (node.Promise key) calls in omega arith, i.1, i.2)
started s c g new (first.Rejects p why key calls e f j a h) i =
    rw h (λ o. let b = i.0 o in let n = put (at_promise o) s.promises key (promise.Open calls) (promise.Fixed (node.Broken BrokenPromise)) j in let t = all_to o (node.Promise key) calls in omega arith, i.1, i.2)
started s c g new (first.Answers t payload refs u e f a h) i =
    rw h (λ o. let b = i.0 o in let n = cut (is_key o) s.tasks t.0 u f in omega arith, i.1, none_without s.tasks s.next_task t.0 i.2)
started s c g new (first.Fails t why u e f a h) i =
    rw h (λ o. let b = i.0 o in let n = cut (is_key o) s.tasks t.0 u f in omega arith, i.1, none_without s.tasks s.next_task t.0 i.2)
started s c g new (first.Finishes k from e f a h) i = rw h i
started s c g new (first.StaysPut r x e f a h) i = rw h i
started s c g new (first.Breaks r x reason e f j k a h) i = rw h i
started s c g new (first.Switches r x by n e f j k l m a h) i = rw h i
started s c g new (first.Turns r x by n t k e f j l m w u v a h) i =
    let b : Embargo = record { reference = record { 0 = r.0 }; node = n; waiting = [] } in
    rw h (λ o. let p = i.0 o in let y = tally-new (at_embargo o) s.embargoes k b v in omega arith, i.1, i.2)

-- A question whose Return comes.
came : (o : ℕ) (m : Map Question) (q : ℕ) (x : Question) (b : Back) → map.get m q ≡ Some x → x.returned ≡ None → tally (at_question o) (map.insert m q (answered x b.waives b.said)) + relay_for o x.role None ≡ tally (at_question o) m
came o m q x b e f =
    let a = put (at_question o) m q x (answered x b.waives b.said) e in
    let c : relay_for o x.role (Some b.said) ≡ 0 = told x.role in
    let d : at_question o x ≡ relay_for o x.role None = ap (relay_for o x.role) f in
    omega arith
  where
    told : (r : Role) → relay_for o r (Some b.said) ≡ 0
    told (role.Direct c) = refl
    told (role.Relay k) = refl

came_unsent : (m : Map Question) (q : ℕ) (x : Question) (b : Back) → (x.finish ≡ finishing.Owed) ⊎ (x.finish ≡ finishing.Waived) → Unsent m → Unsent (map.insert m q (answered x b.waives b.said))
came_unsent m q x b f i = unsent_put m q (answered x b.waives b.said) (by x.role b.waives x.finish f) i
  where
    by : (r : Role) (w : Bool) (k : Finishing) → (k ≡ finishing.Owed) ⊎ (k ≡ finishing.Waived) → RoleUnsent r (cond w (waived k) k)
    by (role.Direct c) w k h = tt
    by (role.Relay o) true finishing.Owed h = tt
    by (role.Relay o) true finishing.Sent (inl h) = cc
    by (role.Relay o) true finishing.Sent (inr h) = cc
    by (role.Relay o) true finishing.Waived h = tt
    by (role.Relay o) false finishing.Owed h = tt
    by (role.Relay o) false finishing.Sent (inl h) = cc
    by (role.Relay o) false finishing.Sent (inr h) = cc
    by (role.Relay o) false finishing.Waived h = tt

consumed : (s : State) (m : Message) (new : Moment) → Consumes (beginning s) m new → Fine (beginning s) → Fine new
consumed s m new (message.OpensRoot q u e f j h) i =
    let y : KeptOutcome = record { caller = caller.Peer q; value = None; waiting = [] } in
    rw h (λ o. let b = i.0 o in let d = waits_new s.outcomes u y o j refl in let n = tally-new (at_outcome o) s.outcomes u y j in omega arith, i.1, i.2)
consumed s m new (message.OpensCall c u e f j h) i =
    let y : KeptOutcome = record { caller = caller.Peer c.question; value = None; waiting = [] } in
    rw h (λ o. let b = i.0 o in let d = waits_new s.outcomes u y o j refl in let n = tally-new (at_outcome o) s.outcomes u y j in omega arith, i.1, i.2)
consumed s m new (message.Loses b x e f j k h) i =
    rw h (λ o. let p = i.0 o in let n = cut (at_question o) s.questions b.question x f in let z = sent_direct o x x.role refl (subst IsUnsent f (i.1 b.question)) k in omega arith, unsent_cut s.questions b.question i.1, i.2)
consumed s m new (message.ComesToCall b x c e f j k l h) i =
    rw h (λ o. let p = i.0 o in let n = came o s.questions b.question x b f j in let z : relay_for o x.role None ≡ 0 = ap (λ (r : Role). relay_for o r None) l in omega arith, came_unsent s.questions b.question x b k i.1, i.2)
consumed s m new (message.ComesToRelay b x u e f j k l h) i =
    rw h (λ o. let p = i.0 o in let n = came o s.questions b.question x b f j in let z : relay_for o x.role None ≡ is_key o u = ap (λ (r : Role). relay_for o r None) l in omega arith, came_unsent s.questions b.question x b k i.1, i.2)
consumed s m new (message.IsFinished x y e f j h) i = rw h i
consumed s m new (message.IsResolved r e h) i = rw h i
consumed s m new (message.IsReleased r e h) i = rw h i
consumed s m new (message.SendsBack t to x e f h) i = rw h i
consumed s m new (message.Lifts t x b e f h) i =
    rw h (λ o. let p = i.0 o in let n = cut (at_embargo o) s.embargoes x.0 b f in let t = all_to o b.node b.waiting in omega arith, i.1, i.2)
consumed s m new (message.SendsForeign p e f h) i = rw h i
consumed s m new (message.SendsOther n e h) i = rw h i
consumed s m new (message.TakesBack r e h) i = rw h i
consumed s m new (message.Ignores r e h) i = rw h i

acted : (d new : Moment) → Fine d → Act d new → Fine new
acted d new i (act.Delivers c n rest u e f h) =
    let s = d.state in
    rw h (λ o. let b = i.0 o in let y = ap (yet_for o) e in let x = tally-new (is_key o) s.tasks s.next_task c.outcome (i.2 s.next_task (omega arith)) in omega arith, i.1, next_given s.tasks s.next_task c.outcome i.2)
acted d new i (act.Waits c n rest p calls e f j h) =
    rw h (λ o. let b = i.0 o in let y = ap (yet_for o) e in let x = put (at_promise o) d.state.promises p (promise.Open calls) (promise.Open (calls ++ c ∷ [])) j in let z = one_more o calls c in omega arith, i.1, i.2)
acted d new i (act.Holds c n rest u path x e f j h) =
    let w : KeptOutcome = record x { waiting = x.waiting ++ record { path = path; call = c } ∷ [] } in
    rw h (λ o. let b = i.0 o in let y = ap (yet_for o) e in let z = put (at_outcome o) d.state.outcomes u x w j in let v = one_held o x.waiting (record { path = path; call = c }) in let k = waits_put d.state.outcomes u w o (ap waits_for j) in omega arith, i.1, i.2)
acted d new i (act.Relays c n rest q t ds es e f j k h) =
    rw h (λ o. let b = i.0 o in let y = ap (yet_for o) e in let x = tally-new (at_question o) d.state.questions q (first.asked (role.Relay c.outcome) ds) j in omega arith, unsent_put d.state.questions q (first.asked (role.Relay c.outcome) ds) tt i.1, i.2)
acted d new i (act.Breaks c n rest reason e f h) =
    rw h (λ o. let b = i.0 o in let y = ap (yet_for o) e in let x = later_more o c.outcome (value.Exception (failed (reason_text reason))) d.arisen in omega arith, i.1, i.2)
acted d new i (act.NextArisen u v rest e f h) =
    rw h (λ o. let b = i.0 o in let y = ap (later o) f in let x : later o d.coming ≡ 0 = ap (λ (m : Moment). later o m.coming) e in omega arith, i.1, i.2)
acted d new i (act.Knows u v fit x ps e f j k h) =
    let w : KeptOutcome = kept_known x.caller fit x.waiting in
    rw h (λ o. let b = i.0 o in let y : later o d.coming ≡ later o ((u, v) ∷ []) = ap (λ (m : Moment). later o m.coming) e in let a = waits_known d.state.outcomes u x w fit o f j refl in let c = put (at_outcome o) d.state.outcomes u x w f in let z = fitted u x.caller x.waiting o d.state v fit (record (d.state) { promises = ps }) k in omega arith, i.1, i.2)
acted d new i (act.Reports c v from e f h) = rw h i
acted d new i (act.TellsNobody c v e f h) = rw h i
acted d new i (act.MakesReturn q v x b ds es e f j k h) = rw h i
acted d new i (act.SendsReturn x y e f j h) = rw h i
acted d new i (act.Clears x e f h) = rw h (λ o. by o f, i.1, i.2)
  where
    by : (o : ℕ) → IsStill d.state x → waits_for (map.get (map.insert d.state.outcomes x.outcome (kept_known x.caller x.value [])) o) ≡ sources o (record (d.state) { outcomes = map.insert d.state.outcomes x.outcome (kept_known x.caller x.value []) }) + (later o d.arisen + later o d.coming + yet_for o (held_to x.outcome x.waiting))
    by o (inl g) =
        let w : KeptOutcome = kept_known x.caller x.value [] in
        let b = i.0 o in
        let y : yet_for o d.yet ≡ 0 = ap (λ (m : Moment). yet_for o m.yet) e in
        let a = waits_put d.state.outcomes x.outcome w o (ap waits_for g) in
        let c = put (at_outcome o) d.state.outcomes x.outcome (kept_known x.caller x.value x.waiting) w g in
        let z = all_held o x.outcome x.waiting in
        omega arith
    by o (inr g) =
        let w : KeptOutcome = kept_known x.caller x.value [] in
        let b = i.0 o in
        let y : yet_for o d.yet ≡ 0 = ap (λ (m : Moment). yet_for o m.yet) e in
        let a = waits_put d.state.outcomes x.outcome w o (ap waits_for g.0) in
        let c = tally-new (at_outcome o) d.state.outcomes x.outcome w g.0 in
        let z = all_held o x.outcome x.waiting in
        let n : held_for o x.waiting ≡ 0 = ap (held_for o) g.1 in
        omega arith
acted d new i (act.Lists x e h) = rw h i
acted d new i (act.SendsResolve x rest k es e w f h) = rw h i
acted d new i (act.SendsBroken x rest reason e f h) = rw h i
acted d new i (act.PromiseGoes p to w e f h) = rw h (λ o. let b = i.0 o in let x = cut (at_promise o) d.state.promises p (promise.Fixed to) e in omega arith, i.1, i.2)
acted d new i (act.OutcomeGoes u x v w e f j k l h) =
    rw h (λ o. let b = i.0 o in let y = cut (at_outcome o) d.state.outcomes u x e in let z : held_for o x.waiting ≡ 0 = ap (held_for o) j in let a = waits_cut d.state.outcomes u o (ap waits_for e ∙ ap unknown f) in omega arith, i.1, i.2)
acted d new i (act.ImportGoes k x w e f h) = rw h i
acted d new i (act.Sweeps over e f j h) = rw h i
acted d new i (act.SendsFinish q x rest e f j k l h) =
    rw h (λ o. let b = i.0 o in let y = closed_same o d.state d.state.questions q x x.returned refl f k in omega arith, closed_unsent d.state d.state.questions q x x.returned refl k i.1, i.2)
acted d new i (act.Closes q x rest e f j k l h) =
    rw h (λ o. let b = i.0 o in let y = closed_same o d.state d.state.questions q x x.returned refl f k in omega arith, closed_unsent d.state d.state.questions q x x.returned refl k i.1, i.2)
acted d new i (act.Releases w e f h) = rw h i

-- ---- Reached states

at_first : (s : State) → HasOneSource s → Fine (beginning s)
at_first s i = (λ o. let b = i.each o in omega arith, i.relays, i.tasks)

at_last : (last : Moment) (x : Effects) (t : State) → Fine last → IsEnd last x t → HasOneSource last.state
at_last last x t i h = record {
  each = λ o.
      let b = i.0 o in
      let a : later o last.arisen ≡ 0 = ap (later o) h.arisen in
      let c : later o last.coming ≡ 0 = ap (λ (m : Moment). later o m.coming) h.rest in
      let y : yet_for o last.yet ≡ 0 = ap (λ (m : Moment). yet_for o m.yet) h.rest in
      omega arith;
  relays = i.1;
  tasks = i.2;
}

none : (v : Vat) (l : Level) (b : Option ObjectId) (down : Option ℕ) → HasOneSource (record (start v l b) { down = down })
none v l b down = record {
  each = λ o.
      let a = tally-empty (is_key o) in
      let c = tally-empty (at_question o) in
      let d = tally-empty (at_promise o) in
      let e = tally-empty (at_outcome o) in
      let f = tally-empty (at_embargo o) in
      let g : waits_for (map.get map.empty o) ≡ 0 = ap waits_for (map.get-empty nat_cmp o) in
      omega arith;
  relays = λ q. subst IsUnsent (sym (map.get-empty nat_cmp q)) tt;
  tasks = λ k h. map.get-empty nat_cmp k;
}

abbrev Keeps : State → Effects → State → Type 0
Keeps s x t = HasOneSource s → HasOneSource t

law : IsLaw (λ s d. HasOneSource s → Fine d) Keeps
law = record {
  starts = λ s c g new f h i. started s c g new h (at_first s i);
  consumes = λ s m new f h i. consumed s m new h (at_first s i);
  act = λ s d new k h i. acted d new (k i) h;
  ends = λ s last x t k h i. rw h.state (at_last last x t (k i) h);
  stays = λ s i. i;
  falls = λ s n x i. none s.vat s.level s.bootstrap (Some n);
}

pub has_one : (s : State) → IsReached s → HasOneSource s
has_one = in_each (record { starts = λ v l b. none v l b None; steps = of_each_step law; falls = λ s n. none s.vat s.level s.bootstrap (Some n) })
