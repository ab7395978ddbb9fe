-- Whatever bytes the peer of a desk sends: each call that is handed out is an own call of the application, or is for an object that the
-- peer was given on this desk and has not given back; none is handed out twice; and each own call ends once (docs/laws/hosts.md, "One vat
-- in C and any peer").
use Rattle.std.specs.Prelude.{◌≡◌, ◌⊎◌, ℕ, ◌≤◌, Option, List}
use Rattle.rpc_msg.specs.declared.ids.CallId.{CallId}
use Rattle.rpc_msg.specs.declared.ids.ObjectId.{ObjectId}
use Rattle.rpc_journal.specs.declared.report.Delivery.{Delivery}
use Rattle.rpc_machine.specs.declared.command.Level.{Level}
use Rattle.laws_authority.specs.Runs.{Event as Logged, RunsTo}
use Rattle.vat_host.specs.declared.event.Event.TheVariants as event
use Rattle.vat_hosts.specs.Served.{WasServed}
use Rattle.vat_connections.specs.OneConnection.{commanded_in}
use Rattle.lovendak_c_desk.specs.declared.desk.Desk.{Desk}
use Rattle.lovendak_c_desk.specs.declared.notice.Notice.{Notice}
use Rattle.lovendak_c_desk.specs.Desks.{idle}
use Rattle.lovendak_c_desk.specs.Notices.{notice_of}
use Rattle.lovendak_c_desks.specs.OneDesk.{Act, ActsAll, HaveDone, IsLetGo, IsMade, IsToldDown, Shows, Did, times_handed}

-- The kinds of events, as the header counts them.
abbrev pub serves : ℕ
serves = 1

abbrev pub ends : ℕ
ends = 2

-- Such a desk is one vat with its peer: it came to where it is in a run in which those commands were done which were done; and what is
-- handed out of calls is of that run.
pub record IsOneVat (xs : List Act) (d : Desk) : Type 0 where
  pub log : List Logged
  pub ran : RunsTo d.connection.speaker.host.core log
  pub commanded : HaveDone xs (commanded_in log)
  -- each call to serve, once
  pub served : (n : Notice) → Did (Shows n) xs → n.kind ≡ serves → (y : Delivery) × (n ≡ notice_of (event.Served y)) × WasServed log y
  pub tasks : (k : ℕ) → times_handed serves k xs ≤ 1
  -- no own call is handed out as ended twice
  pub ended : (k : ℕ) → times_handed ends k xs ≤ 1
  -- once it was handed out that the vat is down, each that was made was let go, or was handed out as ended, once
  pub over : Did IsToldDown xs → (id : CallId) → Did (IsMade id) xs → Did (IsLetGo id) xs ⊎ (times_handed ends id.0 xs ≡ 1)

-- Whatever is done with a new desk.
abbrev pub DesksServeWhatIsGiven : Type 0
DesksServeWhatIsGiven = (level : Level) (root : Option ObjectId) (xs : List Act) (d : Desk) → ActsAll (idle level root) xs d → IsOneVat xs d
