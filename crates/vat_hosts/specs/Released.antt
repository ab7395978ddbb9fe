-- After a host told its application that an object is released, it has no call to it served, until the application hosts it again
-- (docs/laws/released.md).
use Rattle.std.specs.Prelude.{◌≢◌, ◌⊎◌, Option, Some, List, [], ◌∷◌}
use Rattle.rpc_msg.specs.declared.ids.ObjectId.{ObjectId}
use Rattle.rpc_msg.specs.declared.ids.Vat.{Vat}
use Rattle.rpc_journal.specs.declared.report.Delivery.{Delivery}
use Rattle.rpc_machine.specs.declared.command.Level.{Level}
use Rattle.rpc_machine.specs.State.{start}
use Rattle.laws_released.specs.Names.{Hosts}
use Rattle.vat_host.specs.declared.event.Event.TheVariants as event
use Rattle.vat_host.specs.Hosting.{Hosted, Tells, idle}
use Rattle.vat_hosts.specs.OneHost.{Act, ActsAll}
use Rattle.vat_hosts.specs.OneHost.Act.{Commands}

-- A Host of the object is done.
abbrev pub IsHostedIn : ObjectId → List Act → Type 0
IsHostedIn o [] = ⊥
IsHostedIn o (Commands c answer ∷ xs) = Hosts c answer o ⊎ IsHostedIn o xs
IsHostedIn o (x ∷ xs) = IsHostedIn o xs

-- Whatever was done with a new host, it tells that an object is released. Whatever is done with it then, if no Host of the object is: a
-- call that it has served next is to another.
abbrev pub ReleasedAreNotServed : Type 0
ReleasedAreNotServed =
    (vat : Vat) (level : Level) (root : Option ObjectId) (xs : List Act) (old : Hosted) → ActsAll (idle (start vat level root)) xs old
    → (o : ObjectId) (released : Hosted) → Tells old (Some (event.Released o)) released
    → (ys : List Act) (mid : Hosted) → ActsAll released ys mid → (IsHostedIn o ys → ⊥)
    → (y : Delivery) (new : Hosted) → Tells mid (Some (event.Served y)) new → y.object ≢ o
