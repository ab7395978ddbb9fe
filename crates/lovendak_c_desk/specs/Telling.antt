-- The next event is handed out.
use Rattle.std.specs.Prelude.{◌≡◌, ◌<◌, ◌≤◌, ◌⊎◌, ℕ, Bool, true, false, List, length, Option, Some, None, Result, Ok, Err}
use Rattle.vat_host.specs.declared.event.Event.{Event}
use Rattle.lovendak_c_desk.specs.declared.desk.Desk.{Desk}
use Rattle.lovendak_c_desk.specs.declared.notice.Notice.{Notice}
use Rattle.lovendak_c_desk.specs.declared.not_done.NotDone.{NotDone}
use Rattle.lovendak_c_desk.specs.declared.not_done.NotDone.TheVariants as not_done
use Rattle.lovendak_c_desk.specs.Copies.{over}
use Rattle.lovendak_c_desk.specs.Desks.{Looks}
use Rattle.lovendak_c_desk.specs.Notices.{bytes_of, refs_of, notice_of, numbers}

-- The places that an event is written to.
pub record Places : Type 0 where
  pub notice : Notice
  pub bytes : List ℕ
  pub refs : List ℕ

-- What an event says in numbers is written, and what came with it where there is room for that.
abbrev pub HandsOver : Event → Places → Bool → Places → Type 0
HandsOver e room true out =
    (length (bytes_of e) ≤ length room.bytes) × (length (refs_of e) ≤ length room.refs)
    × (out ≡ record { notice = notice_of e; bytes = over (bytes_of e) room.bytes; refs = over (numbers (refs_of e)) room.refs })
HandsOver e room false out =
    ((length room.bytes < length (bytes_of e)) ⊎ (length room.refs < length (refs_of e)))
    × (out ≡ record room { notice = notice_of e })

-- An event that is handed over whole is done with, and any other stays.
abbrev pub TellsOf : {A : Type 0} → Event → Desk → Places → Result A NotDone → Places → Desk → Type 0
TellsOf e old room (Ok u) out new = HandsOver e room true out × (new ≡ record old { event = None })
TellsOf e old room (Err not_done.NoRoom) out new = HandsOver e room false out × (new ≡ old)
TellsOf e old room (Err why) out new = ⊥

abbrev pub TellsLooked : {A : Type 0} → Option Event → Desk → Places → Result A NotDone → Places → Desk → Type 0
TellsLooked None old room answer out new = (answer ≡ Err not_done.Nothing) × (out ≡ room) × (new ≡ old)
TellsLooked (Some e) old room answer out new = TellsOf e old room answer out new

-- The next event is the one that was looked at, or else what the connection tells.
abbrev pub TellsNext : {A : Type 0} → Desk → Places → Result A NotDone → Places → Desk → Type 0
TellsNext old room answer out new = (mid : Desk) × Looks old mid × TellsLooked mid.event mid room answer out new
