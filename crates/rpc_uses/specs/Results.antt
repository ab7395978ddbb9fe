-- Tasks whose results nobody wants (docs/protocol.md, "Questions to a core").
use Rattle.std.specs.Prelude.{ℕ, ◌==◌, Bool, true, false, ◌&&◌, ◌||◌, not, nat_eq, Option, None, Some, is_none}
use Rattle.std.specs.FinMap as map
use Rattle.rpc_msg.specs.declared.ids.TaskId.{TaskId}
use Rattle.rpc_machine.specs.declared.calls.Caller.{Caller}
use Rattle.rpc_machine.specs.declared.calls.Caller.TheVariants as caller_of
use Rattle.rpc_machine.specs.declared.calls.KeptOutcome.{KeptOutcome}
use Rattle.rpc_machine.specs.declared.entries.AnswerEntry.{AnswerEntry}
use Rattle.rpc_machine.specs.Lists.{is_empty}
use Rattle.rpc_machine.specs.State.{State}
use Rattle.rpc_machine.specs.Nodes.{is_field}
use Rattle.rpc_machine.specs.Places.{names}

-- The answer's Finish came, or it is of another outcome.
abbrev pub answer_is_over : ℕ → Option AnswerEntry → Bool
answer_is_over o None = true
answer_is_over o (Some a) = a.finished || not (nat_eq a.outcome o)

-- Who made the call has no more use for its outcome: the application finished it, or the peer's Finish came.
abbrev pub caller_is_over : State → ℕ → Caller → Bool
caller_is_over s o (caller_of.Application c) = is_none (map.get s.calls c.0)
caller_is_over s o (caller_of.Peer q) = answer_is_over o (map.get s.answers q.0)

abbrev pub is_unwanted : State → ℕ → Option KeptOutcome → Bool
is_unwanted s o None = false
is_unwanted s o (Some x) = caller_is_over s o x.caller && is_empty x.waiting && (names s (is_field o) == 0)

abbrev pub stands_for_unwanted : State → Option ℕ → Bool
stands_for_unwanted s None = false
stands_for_unwanted s (Some o) = is_unwanted s o (map.get s.outcomes o)

-- The task is not answered yet, and nobody has use for its results: its caller has none, no call waits for its outcome, and
-- no place names a field of it. It is still to be answered, since a Return is owed.
abbrev pub cancelled : State → TaskId → Bool
cancelled s t = stands_for_unwanted s (map.get s.tasks t.0)
