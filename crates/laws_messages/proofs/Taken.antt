-- The checks that are left find nothing, but for the limit of waiting calls.
use Rattle.std.proofs.Common.{◌≡◌, ◌⊎◌, inl, inr, ℕ, Bool, true, false, not, List, ◌∷◌, Option, None, refl, sym, ap, subst, ◌∙◌}
use Rattle.rpc_msg.specs.declared.ids.Vat.{Vat}
use Rattle.rpc_msg.specs.declared.parts.Target.{Target}
use Rattle.rpc_msg.specs.declared.message.DisembargoContext.{DisembargoContext}
use Rattle.rpc_msg.specs.declared.message.DisembargoContext.TheVariants.{SenderLoopback, ReceiverLoopback}
use Rattle.rpc_msg.specs.declared.message.PlainMessage.{PlainMessage}
use Rattle.rpc_msg.specs.declared.message.PlainMessage.TheVariants as plain
use Rattle.rpc_msg.specs.declared.message.Message.{Message}
use Rattle.rpc_msg.specs.declared.message.Message.TheVariants as message
use Rattle.rpc_journal.specs.History.{if_so}
use Rattle.rpc_machine.specs.State.{State}
use Rattle.rpc_machine.specs.Nodes.{settle, is_wire}
use Rattle.rpc_machine.specs.Numbers.{disembargo_not_loopback, held_past_limit}
use Rattle.rpc_machine.specs.Faults.{target_node, fault_of}
use Rattle.laws_runs.specs.Views.{IsUseful}
use Rattle.rpc_machine.specs.World.{World, core, inbox}
use Rattle.laws_runs.specs.Scenes.{Scene}
use Rattle.laws_runs.specs.SoundScenes.{MayFault, OldestAreTaken}
use Rattle.laws_messages.specs.Left.{turning_fault, left_of, IsLeft, OldestAreLeft, IsLastWord, IsLeftAt}
use Rattle.laws_messages.specs.Taken.{IsOldest, AreTaken, OldestTurn, Premises}
use Rattle.laws_messages.proofs.Oldest.{same_plain}

-- ---- Each kind of message

-- What is left of it finds nothing; of a Call, but for the limit.
abbrev IsFree : PlainMessage → Option ℕ → Type 0
IsFree (plain.Call c) o = MayFault o
IsFree (plain.Abort exception) o = o ≡ None
IsFree (plain.Bootstrap q) o = o ≡ None
IsFree (plain.Return r) o = o ≡ None
IsFree (plain.Finish f) o = o ≡ None
IsFree (plain.Resolve r) o = o ≡ None
IsFree (plain.Release r) o = o ≡ None
IsFree (plain.Disembargo d) o = o ≡ None
IsFree (plain.Other n) o = o ≡ None

may_wait : (b : Bool) → MayFault (if_so b held_past_limit)
may_wait true = refl
may_wait false = tt

abbrev TurnsBy : State → Target → DisembargoContext → Type 0
TurnsBy s t (SenderLoopback x) = is_wire (settle s (target_node s t)) ≡ true
TurnsBy s t (ReceiverLoopback x) = Unit {0}

abbrev Turns : State → PlainMessage → Type 0
Turns s (plain.Disembargo d) = TurnsBy s d.target d.context
Turns s (plain.Abort exception) = Unit {0}
Turns s (plain.Bootstrap q) = Unit {0}
Turns s (plain.Call c) = Unit {0}
Turns s (plain.Return r) = Unit {0}
Turns s (plain.Finish f) = Unit {0}
Turns s (plain.Resolve r) = Unit {0}
Turns s (plain.Release r) = Unit {0}
Turns s (plain.Other n) = Unit {0}

turned : (s : State) (t : Target) (x : DisembargoContext) → TurnsBy s t x → turning_fault s t x ≡ None
turned s t (SenderLoopback x) h = ap (λ b. if_so (not b) disembargo_not_loopback) h
turned s t (ReceiverLoopback x) h = refl

free : (s : State) (m : PlainMessage) → Turns s m → IsFree m (left_of s m)
free s (plain.Abort x) t = refl
free s (plain.Bootstrap q) t = refl
free s (plain.Call c) t = may_wait _
free s (plain.Return r) t = refl
free s (plain.Finish x) t = refl
free s (plain.Resolve r) t = refl
free s (plain.Release r) t = refl
free s (plain.Disembargo d) t = turned s d.target d.context t
free s (plain.Other n) t = refl

-- ---- Worlds

not_last : (w : World) (v : Vat) (m : PlainMessage) → IsUseful m → IsLastWord w v (message.Plain m) → ⊥
not_last w v m u h = same_plain (λ (p : PlainMessage). IsUseful p → ⊥) m (plain.Abort h.0) h.1 (λ b. b) u

-- The fault of the oldest message, by what is left of its checks: no other message is an Abort.
by_left_at : (w : World) (v : Vat) → IsLeftAt w v → (m : PlainMessage) → IsUseful m → IsOldest w v m → fault_of (core w v) (message.Plain m) ≡ left_of (core w v) m
by_left_at w v k m u h = by (k (message.Plain m) h.0 h.1)
  where
    by : IsLastWord w v (message.Plain m) ⊎ IsLeft (core w v) (message.Plain m) → fault_of (core w v) (message.Plain m) ≡ left_of (core w v) m
    by (inl a) = absurd (not_last w v m u a)
    by (inr r) = same_plain (λ (p : PlainMessage). fault_of (core w v) (message.Plain m) ≡ left_of (core w v) p) m r.0 r.1 r.3

free_at : (w : World) (v : Vat) → IsLeftAt w v → (m : PlainMessage) → IsUseful m → IsOldest w v m → Turns (core w v) m → IsFree m (fault_of (core w v) (message.Plain m))
free_at w v k m u h t = subst (IsFree m) (sym (by_left_at w v k m u h)) (free (core w v) m t)

pub taken : (w : World) (v : Vat) → IsLeftAt w v → AreTaken w v
taken w v k = record {
  bootstraps = λ q h. free_at w v k (plain.Bootstrap q) tt h tt;
  calls = λ c h. free_at w v k (plain.Call c) tt h tt;
  returns = λ r h. free_at w v k (plain.Return r) tt h tt;
  finishes = λ f h. free_at w v k (plain.Finish f) tt h tt;
  resolves = λ r h. free_at w v k (plain.Resolve r) tt h tt;
  releases = λ r h. free_at w v k (plain.Release r) tt h tt;
  disembargos = λ t x h. free_at w v k (plain.Disembargo (record { target = t; context = ReceiverLoopback x })) tt h tt;
}

turns : (w : World) → OldestTurn w → (v : Vat) (m : PlainMessage) → IsOldest w v m → Turns (core w v) m
turns w k v (plain.Abort x) h = tt
turns w k v (plain.Bootstrap q) h = tt
turns w k v (plain.Call c) h = tt
turns w k v (plain.Return r) h = tt
turns w k v (plain.Finish f) h = tt
turns w k v (plain.Resolve r) h = tt
turns w k v (plain.Release r) h = tt
turns w k v (plain.Disembargo d) h = by d.target d.context h
  where
    by : (t : Target) (x : DisembargoContext) → IsOldest w v (plain.Disembargo (record { target = t; context = x })) → TurnsBy (core w v) t x
    by t (SenderLoopback x) h = k v t x h
    by t (ReceiverLoopback x) h = tt
turns w k v (plain.Other n) h = tt

may_fault : (m : PlainMessage) (o : Option ℕ) → IsFree m o → MayFault o
may_fault (plain.Call c) o h = h
may_fault (plain.Abort x) o h = subst MayFault (sym h) tt
may_fault (plain.Bootstrap q) o h = subst MayFault (sym h) tt
may_fault (plain.Return r) o h = subst MayFault (sym h) tt
may_fault (plain.Finish f) o h = subst MayFault (sym h) tt
may_fault (plain.Resolve r) o h = subst MayFault (sym h) tt
may_fault (plain.Release r) o h = subst MayFault (sym h) tt
may_fault (plain.Disembargo d) o h = subst MayFault (sym h) tt
may_fault (plain.Other n) o h = subst MayFault (sym h) tt

abbrev pub Allowed : State → Message → Type 0
Allowed s m = MayFault (fault_of s m)

pub all_allowed : (w : World) → OldestAreLeft w → Premises w → (v : Vat) (m : Message) (ms : List Message) → inbox w v ≡ m ∷ ms → Allowed (core w v) m
all_allowed w k p v m ms h =
    let r = k v m ms h in
    let q : PlainMessage = r.0 in
    let e : m ≡ message.Plain q = r.1 in
    let i : IsOldest w v q = (ms, h ∙ ap (λ (n : Message). n ∷ ms) e) in
    subst (Allowed (core w v)) (sym e) (may_fault q (fault_of (core w v) (message.Plain q)) (free_at w v (λ n ns e. inr (k v n ns e)) q r.2 i (turns w p.turns v q i)))

pub none_refused : (x : Scene) → OldestAreLeft x.world → Premises x.world → OldestAreTaken x
none_refused x k p v m ms over h = all_allowed x.world k p v m ms h
