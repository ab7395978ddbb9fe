-- What changes of the four tables of the connection make of a vat's state.
use Rattle.std.specs.Prelude.{◌≡◌, ℕ, ◌+◌, cond, nat_eq, Option, None, Some, List}
use Rattle.std.specs.FinMap as map
use Rattle.finite_maps.specs.Tally.{Map}
use Rattle.rpc_machine.specs.declared.calls.OwnCall.{OwnCall}
use Rattle.rpc_machine.specs.declared.entries.Question.{Question}
use Rattle.rpc_machine.specs.declared.entries.Returned.{Returned}
use Rattle.rpc_machine.specs.declared.entries.Role.{Role}
use Rattle.rpc_machine.specs.declared.entries.Role.TheVariants as role
use Rattle.rpc_machine.specs.declared.entries.AnswerEntry.{AnswerEntry}
use Rattle.rpc_machine.specs.declared.entries.Import.{Import}
use Rattle.rpc_machine.specs.State.{State}
use Rattle.rpc_machine.specs.Limits.{table_limit, count_limit}
use Rattle.rpc_machine.specs.Sweeping.{closed}
use Rattle.rpc_machine.specs.Settling.{returned}
use Rattle.rpc_machine.specs.Messages.{waived, finished_map}
use Rattle.core_refcounts.specs.Names.{Names, noting, times}

-- ---- Questions

-- A new question has a free id.
abbrev pub NewQuestion : State → ℕ → Question → State → Type 0
NewQuestion s q x new = (map.get s.questions q ≡ None) × (new ≡ record s { questions = map.insert s.questions q x })

-- And an own call knows the question.
abbrev pub NewQuestionFor : State → ℕ → ℕ → OwnCall → Question → State → Type 0
NewQuestionFor s call q own x new =
    (map.get s.questions q ≡ None) × (new ≡ record s { questions = map.insert s.questions q x; calls = map.insert s.calls call own })

abbrev pub question_said : Returned → Question → Question
question_said said x = record x { returned = Some said }

abbrev pub question_waived : Question → Question
question_waived x = record x { finish = waived x.finish }

-- The question is finished, if it is there.
abbrev pub close_question : State → ℕ → Option Question → State
close_question s q None = s
close_question s q (Some x) = closed s q x

-- ---- Answers

-- The Return of the answer was sent, if it is there.
abbrev pub return_answer : State → ℕ → List ℕ → Option AnswerEntry → State
return_answer s q ids None = s
return_answer s q ids (Some a) = returned s q a ids

-- Its Finish came.
abbrev pub finish_answer : Map AnswerEntry → ℕ → Option AnswerEntry → Map AnswerEntry
finish_answer m q None = m
finish_answer m q (Some a) = finished_map m q a a.returned

-- ---- Notes

-- A relay's question is noted.
abbrev pub relay_noted : Names → ℕ → Role → Names
relay_noted c q (role.Relay o) = record c { questions = noting c.questions q }
relay_noted c q (role.Direct call) = c

-- The outcome is noted where no place names a field of it.
abbrev pub outcome_noted : Names → ℕ → Names
outcome_noted c o = cond (nat_eq (times c.outcomes.counts o) 0) (record c { outcomes = noting c.outcomes o }) c

-- The import is noted where no place names it.
abbrev pub import_noted : Names → ℕ → Names
import_noted c e = cond (nat_eq (times c.imports.counts e) 0) (record c { imports = noting c.imports e }) c

-- ---- Imports

-- To receive the import once more would take the table or its count past a limit.
abbrev pub IsReceiveLimit : State → Option Import → Type 0
IsReceiveLimit s None = map.len s.imports ≡ table_limit
IsReceiveLimit s (Some x) = x.count + 1 ≡ count_limit

abbrev pub whole_count : Option Import → Option ℕ
whole_count None = None
whole_count (Some x) = Some x.count
