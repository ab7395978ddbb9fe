use Rattle.std.proofs.Common.{◌≡◌, drop}
use Rattle.script_language.specs.Bindings.{with_outcomes}
use Rattle.script_language.proofs.names.VatNames.note_outcomes.Given as goal

-- with those that are left, all are kept
abbrev pub invariant-loop-answer : goal.invariant-loop-answer
invariant-loop-answer l = with_outcomes l.self (drop l.answer-index l.answers) ≡ with_outcomes l.fn.self l.answers
