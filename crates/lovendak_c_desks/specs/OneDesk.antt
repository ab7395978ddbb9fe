-- One desk, which is what a handle of the C library has, whatever is done with it and whatever bytes its peer sends (docs/laws/hosts.md,
-- "One vat in C and any peer").
use Rattle.std.specs.Prelude.{◌≡◌, ◌⊎◌, ℕ, ◌+◌, Bool, ◌&&◌, nat_eq, Result, Ok, Err, List, [], ◌∷◌, ◌++◌}
use Rattle.rpc_msg.specs.declared.ids.CallId.{CallId}
use Rattle.rpc_machine.specs.declared.command.CallCommand.{CallCommand}
use Rattle.rpc_machine.specs.declared.command.Command.{Command}
use Rattle.rpc_machine.specs.declared.command.Command.TheVariants as command
use Rattle.rpc_machine.specs.declared.command.Granted.{Granted}
use Rattle.rpc_machine.specs.declared.command.Granted.TheVariants as granted
use Rattle.laws_nodes.specs.Ones.{one_if}
use Rattle.vat_connection.specs.Connecting.{Finishes as FinishesStream, Receives as ReceivesBytes}
use Rattle.vat_connection.specs.declared.load.Limits.{Limits}
use Rattle.vat_connections.specs.OneConnection.{but_shut}
use Rattle.lovendak_c_desk.specs.declared.desk.Desk.{Desk}
use Rattle.lovendak_c_desk.specs.declared.not_done.NotDone.{NotDone}
use Rattle.lovendak_c_desk.specs.declared.not_done.NotDone.TheVariants as not_done
use Rattle.lovendak_c_desk.specs.declared.notice.Notice.{Notice}
use Rattle.lovendak_c_desk.specs.Commands.{CallsWith, Hosts as HostsObject, IsAsked, IsAskedToFit, SetsFinishes as SetsFinishesBy, ShutsWith}
use Rattle.lovendak_c_desk.specs.Desks.{Awaits as AwaitsAll, HandsOut as HandsOutBytes, with_connection}
use Rattle.lovendak_c_desk.specs.Telling.{Places, TellsNext}

-- ---- what may be done

pub data Act : Type 0 where
  -- Bytes of the peer come, and its stream ends.
  Receives : List ℕ → Act
  Ends : Act
  -- The limits of its load are set, and when its Finishes go.
  SetsLimits : Limits → Act
  SetsFinishes : ℕ → Result (Unit {0}) NotDone → Act
  Shuts : ℕ → Result (Unit {0}) NotDone → Act
  -- Bytes for the peer are handed out, and it is asked what waits.
  HandsOut : (room : List ℕ) (len : ℕ) (out : List ℕ) → Act
  Awaits : ℕ → Bool → Act
  -- A command, with what it answers; and one whose contents may be too large, or none.
  Asks : Command → Result Granted NotDone → Act
  AsksToFit : Command → Result Granted NotDone → Act
  -- A call, and an object that is hosted: the desk does more than the command of that name.
  Calls : CallCommand → Result ℕ NotDone → Act
  Hosts : ℕ → Result ℕ NotDone → Act
  -- The next event is handed out, where there is room.
  Tells : (room : Places) → Result (Unit {0}) NotDone → (out : Places) → Act

-- In the words of the desk's own contracts.
abbrev pub Acts : Desk → Act → Desk → Type 0
Acts old (Receives bytes) new = ReceivesBytes old.connection bytes new.connection × (new ≡ with_connection old new.connection)
Acts old Ends new = FinishesStream old.connection new.connection × (new ≡ with_connection old new.connection)
Acts old (SetsLimits limits) new = new ≡ with_connection old (record (old.connection) { limits = limits })
Acts old (SetsFinishes n answer) new = SetsFinishesBy old n answer new
Acts old (Shuts n answer) new = ShutsWith old n answer new
Acts old (HandsOut room len out) new = HandsOutBytes old room len out new
Acts old (Awaits n has_event) new = AwaitsAll old n has_event new
Acts old (Asks c answer) new = IsAsked old c (λ g. g) answer new
Acts old (AsksToFit c answer) new = IsAskedToFit (λ why. Unit {0}) old c (λ g. g) answer new
Acts old (Calls c answer) new = CallsWith old c answer new
Acts old (Hosts object answer) new = HostsObject old object answer new
Acts old (Tells room answer out) new = TellsNext old room answer out new

-- What is done, in order.
abbrev pub ActsAll : Desk → List Act → Desk → Type 0
ActsAll old [] new = new ≡ old
ActsAll old (x ∷ xs) new = (mid : Desk) × Acts old x mid × ActsAll mid xs new

-- ---- which commands were done

abbrev pub call_made : CallCommand → Result ℕ NotDone → List Command
call_made c (Ok n) = command.Call c ∷ []
call_made c (Err e) = []

-- The act did these commands. The reference of a call may have taken the shorter path before. A shut counts as none: a vat also goes down
-- by itself.
abbrev pub HasDone : Act → List Command → Type 0
HasDone (Asks c (Ok g)) cs = cs ≡ but_shut c
HasDone (AsksToFit c (Ok g)) cs = cs ≡ but_shut c
HasDone (Calls c answer) cs = (cs ≡ call_made c answer) ⊎ (cs ≡ command.Advance c.reference ∷ call_made c answer)
HasDone (Hosts object (Ok made)) cs = cs ≡ command.Host (record { 0 = object }) ∷ []
HasDone x cs = cs ≡ []

abbrev pub HaveDone : List Act → List Command → Type 0
HaveDone [] cs = cs ≡ []
HaveDone (x ∷ xs) cs = (first : List Command) × (more : List Command) × HasDone x first × HaveDone xs more × (cs ≡ first ++ more)

-- The call was made.
abbrev pub IsMade : CallId → Act → Type 0
IsMade id (Asks c (Ok (granted.Call made))) = made ≡ id
IsMade id (AsksToFit c (Ok (granted.Call made))) = made ≡ id
IsMade id (Calls c (Ok n)) = n ≡ id.0
IsMade id x = ⊥

-- The application let it go.
abbrev pub IsLetGo : CallId → Act → Type 0
IsLetGo id (Asks c (Ok g)) = c ≡ command.Finish id
IsLetGo id (AsksToFit c (Ok g)) = c ≡ command.Finish id
IsLetGo id x = ⊥

-- ---- what is handed out

-- The event says this in numbers, whether or not there was room for what came with it.
abbrev pub Shows : Notice → Act → Type 0
Shows n (Tells room (Ok u) out) = out.notice ≡ n
Shows n (Tells room (Err not_done.NoRoom) out) = out.notice ≡ n
Shows n x = ⊥

abbrev pub counts_as : ℕ → ℕ → Notice → ℕ
counts_as kind k n = one_if (nat_eq kind n.kind && nat_eq k n.number)

-- once, if an event of that kind with that number is handed out whole
abbrev pub handed_by : ℕ → ℕ → Act → ℕ
handed_by kind k (Tells room (Ok u) out) = counts_as kind k out.notice
handed_by kind k x = 0

abbrev pub times_handed : ℕ → ℕ → List Act → ℕ
times_handed kind k [] = 0
times_handed kind k (x ∷ xs) = handed_by kind k x + times_handed kind k xs

-- That the vat is down was handed out whole.
abbrev pub IsToldDown : Act → Type 0
IsToldDown (Tells room (Ok u) out) = out.notice.kind ≡ 3
IsToldDown x = ⊥

-- One of these acts is such.
abbrev pub Did : (Act → Type 0) → List Act → Type 0
Did P [] = ⊥
Did P (x ∷ xs) = P x ⊎ Did P xs
