-- A connection: what each call of it does.
use Rattle.std.specs.Prelude.{◌≡◌, ℕ, Bool, true, is_none, List, [], ◌∷◌, length, ◌==◌, ◌&&◌, Option, Some, None, Result, ◌⊎◌, refl}
use Rattle.std.specs.Coded.{Coded, code_by, coded×, coded_list}
use Rattle.rpc_msg.specs.contracts.ids.CallId as call_id_row
use Rattle.rpc_msg.specs.declared.ids.CallId.{CallId}
use Rattle.rpc_msg.specs.declared.ids.ObjectId.{ObjectId}
use Rattle.rpc_msg.specs.declared.ids.Vat.{Vat}
use Rattle.rpc_machine.specs.declared.command.Command.{Command}
use Rattle.rpc_machine.specs.declared.command.Granted.{Granted}
use Rattle.rpc_machine.specs.declared.command.Level.{Level}
use Rattle.rpc_machine.specs.declared.command.Refusal.{Refusal}
use Rattle.capn_fronts.specs.Parts.{nothing}
use Rattle.rpc_machine.specs.State.{start}
use Rattle.vat_host.specs.declared.event.Event.{Event}
use Rattle.vat_host.specs.declared.event.Event.TheVariants as event
use Rattle.vat_host.specs.Hosting.{Hosted, TellsDown as HostTellsDown, TellsNothing, TellsOldest as HostTellsOldest, TellsFreed as HostTellsFreed, has_only_down, idle}
use Rattle.peer_large.specs.Sparing.{fresh as fresh_adapter}
use Rattle.rpc_outgoing.specs.Outflows.{nothing_out}
use Rattle.vat_connection.specs.Calling.{Obeys, ObeysToFit}
use Rattle.vat_connection.specs.Speaking.{Speaking, Falls, Says, given, speaking_code}
use Rattle.vat_connection.specs.Load.{all_told, no_limits, nothing_heard}
use Rattle.vat_connection.specs.declared.load.Limits.{Limits}
use Rattle.vat_connection.specs.contracts.load.Limits as limits_row
use Rattle.vat_connection.specs.Hearing.{Follows, Inflow, IsOver, Proceeds, ends_with, inflow_code, may_hear, nothing_in}
use Rattle.vat_connection.specs.OwnCalls.{IsCutOff, asked, without}

-- A vat with the bytes that it says; what came and was not heard; how much it may hold of what it hears; and the own calls that are
-- open, in the order in which they were made.
pub record Connected : Type 0 where
  pub speaker : Speaking
  pub inflow : Inflow
  pub limits : Limits
  pub open_calls : List CallId

abbrev pub connected_code : Coded Connected
connected_code =
    code_by ((Speaking × Inflow) × (Limits × List CallId))
    (coded× (coded× speaking_code inflow_code) (coded× limits_row.the_row.coded (coded_list call_id_row.the_row.coded)))
    (λ c. ((c.speaker, c.inflow), (c.limits, c.open_calls)))
    (λ p. record { speaker = p.0.0; inflow = p.0.1; limits = p.1.0; open_calls = p.1.1 })
    (λ _. refl)

-- Nothing has come, nothing was said, and there is no limit.
abbrev pub fresh : Vat → Level → Option ObjectId → Connected
fresh vat level bootstrap = record {
  speaker = record { host = idle (start vat level bootstrap); out = nothing_out; adapter = fresh_adapter; heard = nothing_heard };
  inflow = nothing_in;
  limits = no_limits;
  open_calls = [];
}

abbrev pub with_host : Connected → Hosted → Connected
with_host c host = record c { speaker = record (c.speaker) { host = host } }

-- A command was answered and left the vat so: the streams stay as they are.
abbrev pub answered_by : Connected → Command → Result Granted Refusal → Hosted → Connected
answered_by c command answer host = record (with_host c host) { open_calls = asked c.open_calls command answer }

abbrev pub down : Connected → Option ℕ
down c = c.speaker.host.core.down

-- Bytes of the peer come: a vat that is up hears the frames that they make with those that waited, as far as its load allows it.
abbrev pub Receives : Connected → List ℕ → Connected → Type 0
Receives old bytes new =
    Follows old.limits old.speaker old.inflow bytes new.speaker new.inflow
    × (new ≡ record old { speaker = new.speaker; inflow = new.inflow })

-- The vat is taken down with that number, if it is up.
abbrev pub IsShut : Connected → ℕ → Connected → Type 0
IsShut old number new = Falls old.speaker number new.speaker × (new ≡ record old { speaker = new.speaker })

-- The stream ends, if the vat is up and it was not over: the vat goes down, once no frame waits.
abbrev pub EndsStream : Option ℕ → Option ℕ → Connected → Connected → Type 0
EndsStream (Some n) over old new = new ≡ old
EndsStream None (Some n) old new = new ≡ old
EndsStream None None old new =
    IsOver old.speaker old.inflow.unheard nothing (ends_with old.inflow.waiting) new.speaker new.inflow
    × (new ≡ record old { speaker = new.speaker; inflow = new.inflow })

abbrev pub Finishes : Connected → Connected → Type 0
Finishes old new = EndsStream (down old) old.inflow.over old new

-- The vat goes on, before it is asked for bytes or events: the frames that wait are heard, as far as its load allows it, and then all
-- goes out that it has to say.
abbrev pub WorksOn : Connected → Connected → Type 0
WorksOn old new =
    (speaker : Speaking) × (inflow : Inflow) × Proceeds old.limits old.speaker old.inflow speaker inflow
    × ((said : Speaking) × Says speaker said × (new ≡ record old { speaker = said; inflow = inflow }))

-- All that is to be sent is handed out.
abbrev pub Gives : Connected → List ℕ → Connected → Type 0
Gives old bytes new =
    (mid : Connected) × WorksOn old mid × (bytes ≡ mid.speaker.out.bytes) × (new ≡ record mid { speaker = given mid.speaker })

-- ---- its load

-- Whether more bytes of the peer would be heard: the vat is up, its stream is not over, no frame waits unheard, and its load is
-- within what is allowed.
abbrev pub wants_bytes : Connected → Bool
wants_bytes c = (is_none (down c) && is_none c.inflow.over) && ((length c.inflow.unheard == 0) && may_hear c.limits c.speaker)

-- The vat is told what a command asks.
abbrev pub Asks : Connected → Command → Result Granted Refusal → Connected → Type 0
Asks old c answer new = Obeys old.speaker.host c answer new.speaker.host × (new ≡ answered_by old c answer new.speaker.host)

-- The same of a command whose contents may be too large, or whose exports may have no place.
abbrev pub AsksToFit : Connected → Command → Result Granted Refusal → Connected → Type 0
AsksToFit old c answer new = ObeysToFit old.speaker.host c answer new.speaker.host × (new ≡ answered_by old c answer new.speaker.host)

-- ---- what is told

-- the calls that are open once that was told: one that ended is open no more
abbrev pub open_behind : Event → List CallId → List CallId
open_behind (event.Ended call) calls = without call.call calls
open_behind e calls = calls

-- The oldest event that a step left is told.
abbrev pub TellsOldest : Connected → Event → Connected → Type 0
TellsOldest old e new = HostTellsOldest old.speaker.host e new.speaker.host × (new ≡ record (with_host old new.speaker.host) { open_calls = open_behind e old.open_calls })

-- The vat is up, all that its steps left was told, and that an object is released, or that a task is cancelled.
abbrev pub TellsFreed : Connected → Event → Connected → Type 0
TellsFreed old e new = HostTellsFreed old.speaker.host e new.speaker.host × (new ≡ with_host old new.speaker.host)

-- The vat is down, all that its steps left was told, and the oldest call that is open ends with that.
abbrev pub CutsOff : Connected → Event → Connected → Type 0
CutsOff old (event.Ended call) new = (has_only_down old.speaker.host ≡ true) × IsCutOff call × (old ≡ record new { open_calls = call.call ∷ new.open_calls })
CutsOff old e new = ⊥

-- All else was told, and now that the vat is down.
abbrev pub TellsDown : Connected → Event → Connected → Type 0
TellsDown old e new = HostTellsDown old.speaker.host e new.speaker.host × (old.open_calls ≡ []) × (new ≡ with_host old new.speaker.host)

-- What is told: the oldest event that a step left. Behind them, while the vat is up, each task that is cancelled, and each object that is
-- released. Once it is down, each own call that is open, the oldest first, as cut off; and then, once, that the vat is down. If there is nothing to tell, what came
-- beside Calls is counted no more.
abbrev pub TellsNext : Connected → Option Event → Connected → Type 0
TellsNext old (Some e) new = TellsOldest old e new ⊎ (TellsFreed old e new ⊎ (CutsOff old e new ⊎ TellsDown old e new))
TellsNext old None new =
    TellsNothing old.speaker.host old.speaker.host × (new ≡ record old { speaker = record (old.speaker) { heard = all_told old.speaker.heard } })

-- Something is told, once the vat went on.
abbrev pub Tells : Connected → Option Event → Connected → Type 0
Tells old event new = (mid : Connected) × WorksOn old mid × TellsNext mid event new
