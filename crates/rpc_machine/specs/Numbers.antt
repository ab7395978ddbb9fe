-- The numbers of faults, and those of refusals (docs/protocol.md, "Checks of received messages" and "Refusals").
use Rattle.std.specs.Prelude.{ℕ}
use Rattle.rpc_machine.specs.declared.command.Refusal.{Refusal}
use Rattle.rpc_machine.specs.declared.command.Refusal.TheVariants as refusal
use Rattle.rpc_machine.specs.declared.fault.Fault.{Fault}
use Rattle.rpc_machine.specs.declared.fault.Fault.TheVariants as fault

-- ---- Faults

-- A Bootstrap's or a Call's id is that of an answer.
abbrev pub question_in_use : ℕ
question_in_use = 20

-- There is no such question, or it was returned.
abbrev pub unknown_question : ℕ
unknown_question = 21

abbrev pub unknown_export : ℕ
unknown_export = 22

-- There is no such answer, or its Finish came.
abbrev pub unknown_answer : ℕ
unknown_answer = 23

-- More is given back than the export's count, or nothing.
abbrev pub over_release : ℕ
over_release = 24

abbrev pub resolved_twice : ℕ
resolved_twice = 25

-- A Resolve of an import that is no promise.
abbrev pub not_a_promise : ℕ
not_a_promise = 26

-- The target of a Disembargo does not settle to a wire.
abbrev pub disembargo_not_loopback : ℕ
disembargo_not_loopback = 27

abbrev pub unknown_embargo : ℕ
unknown_embargo = 28

-- A sender descriptor of another kind than its import's, or of an import that was resolved.
abbrev pub kind_mismatch : ℕ
kind_mismatch = 29

-- The payload's capabilities and the descriptors differ in number.
abbrev pub bad_payload : ℕ
bad_payload = 30

-- A Call would have to wait where no more may.
abbrev pub held_past_limit : ℕ
held_past_limit = 31

-- A message came back that every vat understands.
abbrev pub unimplemented_answer : ℕ
unimplemented_answer = 32

-- There is no room, or no memory.
abbrev pub want_of_room : ℕ
want_of_room = 33

abbrev pub peer_abort : ℕ
peer_abort = 34

abbrev pub fault_number : Fault → ℕ
fault_number fault.QuestionInUse = question_in_use
fault_number fault.UnknownQuestion = unknown_question
fault_number fault.UnknownExport = unknown_export
fault_number fault.UnknownAnswer = unknown_answer
fault_number fault.OverRelease = over_release
fault_number fault.ResolvedTwice = resolved_twice
fault_number fault.NotAPromise = not_a_promise
fault_number fault.DisembargoNotLoopback = disembargo_not_loopback
fault_number fault.UnknownEmbargo = unknown_embargo
fault_number fault.KindMismatch = kind_mismatch
fault_number fault.BadPayload = bad_payload
fault_number fault.HeldLimit = held_past_limit
fault_number fault.UnimplementedAnswer = unimplemented_answer
fault_number fault.WantOfRoom = want_of_room
fault_number fault.PeerAbort = peer_abort

-- ---- Refusals

abbrev pub refusal_number : Refusal → ℕ
refusal_number refusal.Memory = 1
refusal_number refusal.Full = 2
refusal_number refusal.Down = 3
refusal_number refusal.UnknownRef = 4
refusal_number refusal.UnknownCall = 5
refusal_number refusal.UnknownTask = 6
refusal_number refusal.UnknownPromise = 7
refusal_number refusal.Cycle = 8
refusal_number refusal.CapCount = 9
refusal_number refusal.LongPath = 10
refusal_number refusal.Level = 11
