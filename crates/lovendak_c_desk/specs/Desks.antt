-- A desk: what its calls do, by what the connection does.
use Rattle.std.specs.Prelude.{◌≡◌, ℕ, Bool, List, [], ◌∷◌, ◌++◌, min, take, drop, length, Option, Some, None, is_some}
use Rattle.rpc_msg.specs.declared.ids.ObjectId.{ObjectId}
use Rattle.rpc_msg.specs.declared.ids.Vat.TheVariants.{A}
use Rattle.rpc_machine.specs.declared.command.Level.{Level}
use Rattle.vat_host.specs.declared.event.Event.{Event}
use Rattle.vat_connection.specs.Connecting.{Connected, Gives, Tells, fresh}
use Rattle.lovendak_c_desk.specs.declared.desk.Desk.{Desk}
use Rattle.lovendak_c_desk.specs.declared.not_done.NotDone.{NotDone}
use Rattle.lovendak_c_desk.specs.declared.not_done.NotDone.TheVariants as not_done
use Rattle.lovendak_c_desk.specs.Given.{lacks_memory}

-- Nothing was taken out of the connection.
abbrev pub clear : Connected → Desk
clear c = record { connection = c; waiting = []; event = None }

-- the desk of a vat to which nothing has come
abbrev pub idle : Level → Option ObjectId → Desk
idle level bootstrap = clear (fresh A level bootstrap)

-- The connection alone is another.
abbrev pub with_connection : Desk → Connected → Desk
with_connection d c = record d { connection = c }

-- The level is none, or memory is wanting.
abbrev pub IsNotMade : Option Level → NotDone → Type 0
IsNotMade None e = e ≡ not_done.NoSuchNumber
IsNotMade (Some level) e = e ≡ lacks_memory

-- Where bytes wait, nothing happens; else all wait that is to be sent by now.
abbrev pub SaysBehind : List ℕ → Desk → Desk → Type 0
SaysBehind [] old new = Gives old.connection new.waiting new.connection × (new.event ≡ old.event)
SaysBehind (b ∷ bytes) old new = new ≡ old

abbrev pub Says : Desk → Desk → Type 0
Says old new = SaysBehind old.waiting old new

-- Where an event was looked at, nothing happens; else what the connection tells is looked at.
abbrev pub LooksBehind : Option Event → Desk → Desk → Type 0
LooksBehind None old new = Tells old.connection new.event new.connection × (new.waiting ≡ old.waiting)
LooksBehind (Some event) old new = new ≡ old

abbrev pub Looks : Desk → Desk → Type 0
Looks old new = LooksBehind old.event old new

-- Of the bytes that wait as many are handed out as there is room for, and what stood behind them there stays.
abbrev pub HandsOut : Desk → List ℕ → ℕ → List ℕ → Desk → Type 0
HandsOut old room n out new =
    (mid : Desk) × Says old mid × (n ≡ min (length room) (length mid.waiting)) × (out ≡ take n mid.waiting ++ drop n room) × (new ≡ record mid { waiting = drop n mid.waiting })

-- So many bytes wait, and there is an event or none.
abbrev pub Awaits : Desk → ℕ → Bool → Desk → Type 0
Awaits old n has_event new = (mid : Desk) × Says old mid × Looks mid new × (n ≡ length new.waiting) × (has_event ≡ is_some new.event)
