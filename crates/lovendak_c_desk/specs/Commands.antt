-- Commands by numbers and bytes: what comes of each is what comes of the connection's.
use Rattle.std.specs.Prelude.{◌≡◌, ◌⊎◌, ◌<◌, ◌≤◌, ℕ, cond, nat_eq, List, Option, Some, None, Result, Ok, Err}
use Rattle.rpc_msg.specs.declared.exception.ExceptionKind.{ExceptionKind}
use Rattle.rpc_journal.specs.declared.report.Advanced.{Advanced}
use Rattle.rpc_journal.specs.declared.report.Advanced.TheVariants as advanced
use Rattle.rpc_machine.specs.declared.command.CallCommand.{CallCommand}
use Rattle.rpc_machine.specs.declared.command.Command.{Command}
use Rattle.rpc_machine.specs.declared.command.Command.TheVariants as command
use Rattle.rpc_machine.specs.declared.command.Granted.{Granted}
use Rattle.rpc_machine.specs.declared.command.Granted.TheVariants as granted
use Rattle.vat_host.specs.declared.event.Event.{Event}
use Rattle.vat_host.specs.declared.event.Event.TheVariants as event
use Rattle.peer_finishes.specs.declared.held.Finishes.{Finishes}
use Rattle.vat_connection.specs.Speaking.{finishing}
use Rattle.vat_connection.specs.Calling.{Calls, Fits, IsTooLarge}
use Rattle.vat_connection.specs.Connecting.{Asks, AsksToFit, IsShut, answered_by}
use Rattle.lovendak_c_desk.specs.declared.desk.Desk.{Desk}
use Rattle.lovendak_c_desk.specs.declared.not_done.NotDone.{NotDone}
use Rattle.lovendak_c_desk.specs.declared.not_done.NotDone.TheVariants as not_done
use Rattle.lovendak_c_desk.specs.Desks.{with_connection}
use Rattle.lovendak_c_desk.specs.Given.{IsNoPayload, IsNoText, finishes_at, kind_at, reference, references, with_refs}

-- ---- what is granted, in numbers

abbrev pub a_call : ℕ → Granted
a_call n = granted.Call (record { 0 = n })

abbrev pub a_reference : ℕ → Granted
a_reference n = granted.Reference (reference n)

abbrev pub a_promise : ℕ × ℕ → Granted
a_promise made = granted.Promise (record { 0 = made.0 }) (reference made.1)

abbrev pub nothing : {A : Type 0} → A → Granted
nothing u = granted.Done

-- What became of a reference: 0 nothing, 1 switched, 2 embargoed, 3 broke.
abbrev pub number_of : Advanced → ℕ
number_of advanced.Nothing = 0
number_of advanced.Switched = 1
number_of advanced.Embargoed = 2
number_of advanced.Broke = 3

-- ---- commands

-- The command is done and grants what is given, or it is refused; nothing else of the desk is changed.
abbrev pub IsAsked : {A : Type 0} → Desk → Command → (A → Granted) → Result A NotDone → Desk → Type 0
IsAsked old c grants (Ok x) new = Asks old.connection c (Ok (grants x)) new.connection × (new ≡ with_connection old new.connection)
IsAsked old c grants (Err (not_done.Refused r)) new = Asks old.connection c (Err r) new.connection × (new ≡ with_connection old new.connection)
IsAsked old c grants (Err e) new = ⊥

-- The same of a command whose contents may be too large, or unfit for the reason told, or whose exports may have no place: then nothing is
-- changed.
abbrev pub IsAskedToFit : {A : Type 0} → (NotDone → Type 0) → Desk → Command → (A → Granted) → Result A NotDone → Desk → Type 0
IsAskedToFit Unfit old c grants (Ok x) new = AsksToFit old.connection c (Ok (grants x)) new.connection × (new ≡ with_connection old new.connection)
IsAskedToFit Unfit old c grants (Err (not_done.Refused r)) new = AsksToFit old.connection c (Err r) new.connection × (new ≡ with_connection old new.connection)
IsAskedToFit Unfit old c grants (Err e) new = Unfit e × (new ≡ old)

-- ---- answer, fail, resolve, reject, advance

-- A task gets these bytes, with these references.
abbrev pub Answers : {A : Type 0} → Desk → ℕ → List ℕ → List ℕ → Result A NotDone → Desk → Type 0
Answers old task bytes refs answer new =
    IsAskedToFit (IsNoPayload (with_refs bytes refs)) old (command.Answer (record { 0 = task }) (with_refs bytes refs) (references refs)) nothing answer new

-- A command is given an exception of that kind, if it is one, with that reason.
abbrev pub Excepts : {A : Type 0} → Option ExceptionKind → Desk → (ExceptionKind → Command) → List ℕ → Result A NotDone → Desk → Type 0
Excepts None old c reason answer new = (answer ≡ Err not_done.NoSuchNumber) × (new ≡ old)
Excepts (Some kind) old c reason answer new = IsAskedToFit (IsNoText reason) old (c kind) nothing answer new

abbrev pub Fails : {A : Type 0} → Desk → ℕ → ℕ → List ℕ → Result A NotDone → Desk → Type 0
Fails old task kind reason answer new =
    Excepts (kind_at kind) old (λ k. command.Fail (record { 0 = task }) (record { kind = k; reason = reason })) reason answer new

-- A promise is settled to what a reference leads to.
abbrev pub Resolves : {A : Type 0} → Desk → ℕ → ℕ → Result A NotDone → Desk → Type 0
Resolves old promise to answer new = IsAskedToFit (λ why. ⊥) old (command.Resolve (record { 0 = promise }) (record { 0 = to })) nothing answer new

abbrev pub Rejects : {A : Type 0} → Desk → ℕ → ℕ → List ℕ → Result A NotDone → Desk → Type 0
Rejects old promise kind reason answer new =
    Excepts (kind_at kind) old (λ k. command.Reject (record { 0 = promise }) (record { kind = k; reason = reason })) reason answer new

-- A reference is asked to take the shorter path.
abbrev pub Advances : Desk → ℕ → Result ℕ NotDone → Desk → Type 0
Advances old r (Ok n) new =
    (became : Advanced) × (n ≡ number_of became)
    × Asks old.connection (command.Advance (reference r)) (Ok (granted.Advanced became)) new.connection × (new ≡ with_connection old new.connection)
Advances old r (Err e) new = IsAsked {A = ℕ} old (command.Advance (reference r)) nothing (Err e) new

-- ---- call

-- the call of these numbers, with these bytes and references
abbrev pub call_of : ℕ → ℕ → ℕ → List ℕ → List ℕ → CallCommand
call_of r interface method bytes refs = record {
  reference = reference r;
  interface = interface;
  method = method;
  payload = with_refs bytes refs;
  refs = references refs;
}

-- A call is made, once its reference took the shorter path, if it could; or it is refused; or the bytes are no payload.
abbrev pub CallsWith : Desk → CallCommand → Result ℕ NotDone → Desk → Type 0
CallsWith old c (Ok n) new =
    Calls old.connection.speaker.host c (Ok (record { 0 = n })) new.connection.speaker.host × Fits (command.Call c)
    × (new ≡ with_connection old (answered_by old.connection (command.Call c) (Ok (a_call n)) new.connection.speaker.host))
CallsWith old c (Err (not_done.Refused r)) new =
    (Calls old.connection.speaker.host c (Err r) new.connection.speaker.host ⊎ IsTooLarge old.connection.speaker.host (command.Call c) r new.connection.speaker.host)
    × (new ≡ with_connection old (answered_by old.connection (command.Call c) (Err r) new.connection.speaker.host))
CallsWith old c (Err e) new = IsNoPayload c.payload e × (new ≡ old)

-- ---- shut

-- ---- when a Finish goes

abbrev pub SetsBy : {A : Type 0} → Option Finishes → Desk → Result A NotDone → Desk → Type 0
SetsBy (Some f) old (Ok u) new = new ≡ with_connection old (record (old.connection) { speaker = finishing old.connection.speaker f })
SetsBy (Some f) old (Err e) new = ⊥
SetsBy None old (Ok u) new = ⊥
SetsBy None old (Err e) new = (e ≡ not_done.NoSuchNumber) × (new ≡ old)

-- From now on a Finish goes at once, or behind its Return, by that number.
abbrev pub SetsFinishes : {A : Type 0} → Desk → ℕ → Result A NotDone → Desk → Type 0
SetsFinishes old n answer new = SetsBy (finishes_at n) old answer new

-- ---- host

-- That this object is released is not told, if it was looked at: it is hosted again.
abbrev pub unless_released : ℕ → Option Event → Option Event
unless_released object None = None
unless_released object (Some (event.Released o)) = cond (nat_eq o.0 object) None (Some (event.Released o))
unless_released object (Some (event.Served call)) = Some (event.Served call)
unless_released object (Some (event.Ended call)) = Some (event.Ended call)
unless_released object (Some (event.Resolved place)) = Some (event.Resolved place)
unless_released object (Some (event.Cancelled task)) = Some (event.Cancelled task)
unless_released object (Some (event.Lifted reference)) = Some (event.Lifted reference)
unless_released object (Some (event.Down number reason)) = Some (event.Down number reason)

-- A reference to an object is made.
abbrev pub Hosts : Desk → ℕ → Result ℕ NotDone → Desk → Type 0
Hosts old object (Ok made) new =
    Asks old.connection (command.Host (record { 0 = object })) (Ok (a_reference made)) new.connection
    × (new ≡ record old { connection = new.connection; event = unless_released object old.event })
Hosts old object (Err (not_done.Refused r)) new =
    Asks old.connection (command.Host (record { 0 = object })) (Err r) new.connection × (new ≡ with_connection old new.connection)
Hosts old object (Err e) new = ⊥

-- The vat goes down with a number of 16 bits.
abbrev pub ShutsWith : {A : Type 0} → Desk → ℕ → Result A NotDone → Desk → Type 0
ShutsWith old n (Ok u) new = (n < 65536) × IsShut old.connection n new.connection × (new ≡ with_connection old new.connection)
ShutsWith old n (Err not_done.NoSuchNumber) new = (65536 ≤ n) × (new ≡ old)
ShutsWith old n (Err e) new = ⊥
