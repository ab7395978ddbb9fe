-- No call is pending exactly where none is through the reference.
use Rattle.std.proofs.Common.{◌≡◌, Bool, true, false, not, ◌||◌, cond, List, [], ◌∷◌, refl}
use Rattle.std.specs.List.{list_any}
use Rattle.rpc_journal.specs.rpc_msg.specs.declared.ids.Stamp.{Stamp}
use Rattle.rpc_journal.specs.History.{Ref}
use Rattle.rpc_machine.specs.Queries.{is_through}
use Rattle.rpc_machine.specs.Pending.{through, open_calls}
use Rattle.rpc_machine.specs.World.{World}
use Rattle.rpc_machine.specs.Claims.{IdleIsNonePending}

none_by : (b : Bool) (s : Stamp) (ss : List Stamp) (any : Bool) → (not any ≡ true → ss ≡ []) → not (b || any) ≡ true → cond b (s ∷ ss) ss ≡ []
none_by true s ss any h e = cc
none_by false s ss any h e = h e

none : (r : Ref) (ss : List Stamp) → not (list_any (is_through r) ss) ≡ true → through r ss ≡ []
none r [] e = refl
none r (s ∷ ss) e = none_by (is_through r s) s (through r ss) (list_any (is_through r) ss) (none r ss) e

idle_by : (b : Bool) (s : Stamp) (ss : List Stamp) (any : Bool) → (ss ≡ [] → not any ≡ true) → cond b (s ∷ ss) ss ≡ [] → not (b || any) ≡ true
idle_by true s ss any h e = cc
idle_by false s ss any h e = h e

idle : (r : Ref) (ss : List Stamp) → through r ss ≡ [] → not (list_any (is_through r) ss) ≡ true
idle r [] e = refl
idle r (s ∷ ss) e = idle_by (is_through r s) s (through r ss) (list_any (is_through r) ss) (idle r ss) e

pub idle_is_none_pending : (w : World) → IdleIsNonePending w
idle_is_none_pending w r = (none r (open_calls w), idle r (open_calls w))
