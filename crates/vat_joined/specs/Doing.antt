-- What each call of two joined connections does.
use Rattle.std.specs.Prelude.{◌≡◌, ℕ, List, ◌++◌, length, take, drop, Option, Result}
use Rattle.rpc_msg.specs.declared.ids.Vat.{Vat}
use Rattle.rpc_machine.specs.declared.command.Command.{Command}
use Rattle.rpc_machine.specs.declared.command.Granted.{Granted}
use Rattle.rpc_machine.specs.declared.command.Refusal.{Refusal}
use Rattle.vat_host.specs.declared.event.Event.{Event}
use Rattle.vat_connection.specs.Connecting.{Connected, Gives as GivesBytes, Receives as ReceivesBytes, Tells}
use Rattle.vat_connection.specs.declared.load.Limits.{Limits}
use Rattle.vat_connections.specs.OneConnection.Act.{Commands, Receives, Ends, Shuts, Gives, Asks, SetsLimits}
use Rattle.laws_in_bytes.specs.Joined.{stream}
use Rattle.vat_joined.specs.declared.entry.JoinedEntry.{JoinedEntry}
use Rattle.vat_joined.specs.Recorded.{DoesNoted, Recorded, entries_by_act}

-- ---- at one of the two

-- A connection hands out its bytes, so many, which go behind those on their way.
abbrev pub HandsOut : Connected → List ℕ → ℕ → Connected → List ℕ → Type 0
HandsOut old way count new later = (bytes : List ℕ) × GivesBytes old bytes new × (later ≡ way ++ bytes) × (count ≡ length bytes)

-- The first bytes on their way come to a connection: at most so many, and all if there are fewer.
abbrev pub TakesIn : Connected → List ℕ → ℕ → ℕ → Connected → List ℕ → Type 0
TakesIn old way most count new later = ReceivesBytes old (take most way) new × (later ≡ drop most way) × (count ≡ length (take most way))

-- A connection tells something or nothing, and that is noted.
abbrev pub IsToldAndNoted : Connected → List JoinedEntry → Vat → Option Event → Connected → List JoinedEntry → Type 0
IsToldAndNoted old journal v event new later = Tells old event new × (later ≡ journal ++ entries_by_act v (Asks event))

-- ---- at both

-- A command, with what it answers.
abbrev pub DoesCommand : Recorded → Vat → Command → Result Granted Refusal → Recorded → Type 0
DoesCommand old v c answer new = DoesNoted old (record { vat = v; act = Commands c answer }) new

-- The vat hands out its bytes, so many, which go behind those on their way to the other.
abbrev pub DoesGive : Recorded → Vat → ℕ → Recorded → Type 0
DoesGive old v count new = (bytes : List ℕ) × DoesNoted old (record { vat = v; act = Gives bytes }) new × (count ≡ length bytes)

-- The first bytes on their way to the vat come: at most so many, and all if there are fewer.
abbrev pub DoesCome : Recorded → Vat → ℕ → ℕ → Recorded → Type 0
DoesCome old v most count new =
    let bytes = take most (stream old.joined v) in
    DoesNoted old (record { vat = v; act = Receives bytes }) new × (count ≡ length bytes)

-- The vat is asked for what it has to tell.
abbrev pub DoesAsk : Recorded → Vat → Option Event → Recorded → Type 0
DoesAsk old v event new = DoesNoted old (record { vat = v; act = Asks event }) new

-- The stream to the vat ends; the vat is shut; the limits of its load are set.
abbrev pub DoesEnd : Recorded → Vat → Recorded → Type 0
DoesEnd old v new = DoesNoted old (record { vat = v; act = Ends }) new

abbrev pub DoesShut : Recorded → Vat → ℕ → Recorded → Type 0
DoesShut old v number new = DoesNoted old (record { vat = v; act = Shuts number }) new

abbrev pub DoesSetLimits : Recorded → Vat → Limits → Recorded → Type 0
DoesSetLimits old v limits new = DoesNoted old (record { vat = v; act = SetsLimits limits }) new
