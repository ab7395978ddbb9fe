-- Whatever bytes the peer of a connection sends: each call that it has its application serve is an own call of the application, or is for
-- an object that the peer was given and has not given back; none is served twice; and each own call ends once (docs/laws/hosts.md, "One
-- connection and any peer").
use Rattle.std.specs.Prelude.{◌≡◌, ◌⊎◌, ℕ, ◌≤◌, Option, Some, Ok, List, [], ◌∷◌, flat_map}
use Rattle.rpc_msg.specs.declared.ids.CallId.{CallId}
use Rattle.rpc_msg.specs.declared.ids.ObjectId.{ObjectId}
use Rattle.rpc_msg.specs.declared.ids.Vat.{Vat}
use Rattle.rpc_journal.specs.declared.report.Delivery.{Delivery}
use Rattle.rpc_machine.specs.declared.command.Command.TheVariants as command
use Rattle.rpc_machine.specs.declared.command.Granted.TheVariants as granted
use Rattle.rpc_machine.specs.declared.command.Level.{Level}
use Rattle.laws_authority.specs.Reach.{IsIn}
use Rattle.laws_authority.specs.Runs.{Event as Logged, RunsTo}
use Rattle.vat_host.specs.declared.event.Event.{Event}
use Rattle.vat_host.specs.declared.event.Event.TheVariants as event
use Rattle.vat_hosts.specs.Served.{WasServed, times_served, times_told}
use Rattle.vat_connection.specs.Connecting.{Connected, Tells, fresh}
use Rattle.vat_connections.specs.OneConnection.{Act, ActsAll, commanded_by, commanded_in, told_by, told_to}
use Rattle.vat_connections.specs.OneConnection.Act.{Commands, Asks}

-- ---- own calls

-- The call was made: a command granted its number.
abbrev pub IsMade : CallId → Act → Type 0
IsMade id (Commands c (Ok (granted.Call made))) = made ≡ id
IsMade id x = ⊥

-- The application was told that it ended.
abbrev pub IsToldEnded : CallId → Act → Type 0
IsToldEnded id (Asks (Some (event.Ended x))) = x.call ≡ id
IsToldEnded id x = ⊥

-- The application let it go.
abbrev pub IsLetGo : CallId → Act → Type 0
IsLetGo id (Commands c (Ok g)) = c ≡ command.Finish id
IsLetGo id x = ⊥

-- The application was told that the vat is down.
abbrev pub IsToldDown : Act → Type 0
IsToldDown (Asks (Some (event.Down number reason))) = Unit {0}
IsToldDown x = ⊥

-- One of these acts is such.
abbrev pub Did : (Act → Type 0) → List Act → Type 0
Did P [] = ⊥
Did P (x ∷ xs) = P x ⊎ Did P xs

-- ---- the law

-- Such a connection is one vat with its peer: it came to where it is in a run in which those commands were done which were done; and what
-- its application is told of calls is of that run.
pub record IsOneVat (xs : List Act) (c : Connected) : Type 0 where
  pub log : List Logged
  pub ran : RunsTo c.speaker.host.core log
  pub commanded : commanded_in log ≡ flat_map commanded_by xs
  -- each call to serve, and each is told once
  pub served : (y : Delivery) → IsIn (event.Served y) (told_to xs c) → WasServed log y
  pub tasks : (k : ℕ) → times_served k (told_to xs c) ≤ 1
  -- an own call that was made was told as ended, was let go, or is open; none is told as ended twice
  pub followed : (id : CallId) → Did (IsMade id) xs → Did (IsToldEnded id) xs ⊎ (Did (IsLetGo id) xs ⊎ IsIn id c.open_calls)
  pub ended : (k : ℕ) → times_told k (told_to xs c) ≤ 1
  -- once it was told that the vat is down, none is open: each that was made was let go, or was told as ended, once; and nothing more is told
  pub closed : Did IsToldDown xs → c.open_calls ≡ []
  pub over : Did IsToldDown xs → (id : CallId) → Did (IsMade id) xs → Did (IsLetGo id) xs ⊎ (times_told id.0 (flat_map told_by xs) ≡ 1)
  pub last : Did IsToldDown xs → (e : Event) (new : Connected) → Tells c (Some e) new → ⊥

-- Whatever is done with a new connection.
abbrev pub ConnectionsServeWhatIsGiven : Type 0
ConnectionsServeWhatIsGiven = (vat : Vat) (level : Level) (root : Option ObjectId) (xs : List Act) (c : Connected) → ActsAll (fresh vat level root) xs c → IsOneVat xs c
