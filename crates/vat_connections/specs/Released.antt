-- After a connection told its application that an object is released, it has no call to it served, until the application hosts it again
-- (docs/laws/hosts.md, "What is released is not served").
use Rattle.std.specs.Prelude.{◌≢◌, ◌⊎◌, Option, Some, List, [], ◌∷◌}
use Rattle.rpc_msg.specs.declared.ids.ObjectId.{ObjectId}
use Rattle.rpc_msg.specs.declared.ids.Vat.{Vat}
use Rattle.rpc_journal.specs.declared.report.Delivery.{Delivery}
use Rattle.rpc_machine.specs.declared.command.Level.{Level}
use Rattle.laws_released.specs.Names.{Hosts}
use Rattle.vat_host.specs.declared.event.Event.TheVariants as event
use Rattle.vat_connection.specs.Connecting.{Connected, Tells, fresh}
use Rattle.vat_connections.specs.OneConnection.{Act, ActsAll}
use Rattle.vat_connections.specs.OneConnection.Act.{Commands}

-- A Host of the object is done.
abbrev pub IsHostedIn : ObjectId → List Act → Type 0
IsHostedIn o [] = ⊥
IsHostedIn o (Commands c answer ∷ xs) = Hosts c answer o ⊎ IsHostedIn o xs
IsHostedIn o (x ∷ xs) = IsHostedIn o xs

-- Whatever was done with a new connection, it tells that an object is released. Whatever is done with it then, and whatever bytes come, if
-- no Host of the object is done: a call that it has served next is to another.
abbrev pub ReleasedAreNotServed : Type 0
ReleasedAreNotServed =
    (vat : Vat) (level : Level) (root : Option ObjectId) (xs : List Act) (old : Connected) → ActsAll (fresh vat level root) xs old
    → (o : ObjectId) (released : Connected) → Tells old (Some (event.Released o)) released
    → (ys : List Act) (mid : Connected) → ActsAll released ys mid → (IsHostedIn o ys → ⊥)
    → (y : Delivery) (new : Connected) → Tells mid (Some (event.Served y)) new → y.object ≢ o
