-- The log of an end, as the pair machine sees it.
use Rattle.std.specs.Prelude.{◌≡◌, ℕ, List, map}
use Rattle.laws_merge.specs.Machine.{Input, Command, Shut, Receive, Side, side}
use Rattle.laws_merge.specs.Logs as logs
use Rattle.link_rings.specs.declared.frame.Frame.{Frame}
use Rattle.link_rings.specs.declared.entry.Entry.{Entry}
use Rattle.link_rings.specs.Waiting.{frames_from}

abbrev pub frame_of : {M : Type 0} → Frame M → logs.Frame M
frame_of f = record { seq = f.seq; ack = f.ack; message = f.message }

abbrev pub framed : {M : Type 0} → List (Frame M) → List (logs.Frame M)
framed fs = map frame_of fs

-- The received frame had this number and this ack.
abbrev pub cause_by : {C M : Type 0} → ℕ → ℕ → Input C M → logs.Cause C M
cause_by seq ack (Command c) = logs.Commanded c
cause_by seq ack Shut = logs.WasShut
cause_by seq ack (Receive m) = logs.Received (record { seq = seq; ack = ack; message = m })

module _ {S C M N : Type 0} (input : N → Input C M) (sends : N → List M) (step : S → N → S → Type 0) where
  -- The steps are those that a note tells.
  abbrev pub StepBy : S → Input C M → N → List M → S → Type 0
  StepBy old i note out new = (input note ≡ i) × (sends note ≡ out) × step old note new

  abbrev pub party : Side M M
  party = side StepBy

  abbrev pub entry_of : Entry N → logs.Entry party
  entry_of e = record { cause = cause_by e.seq e.ack (input e.note); note = e.note; made = framed (frames_from e.first e.heard (sends e.note)) }

  abbrev pub log_of : List (Entry N) → List (logs.Entry party)
  log_of es = map entry_of es
