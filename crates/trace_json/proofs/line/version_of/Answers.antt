use Rattle.serde_json.specs.Read.{read}
use Rattle.serde_json.specs.View.{view}
use Rattle.trace_json.proofs.Ladder.{no_version, version_fault}
use Rattle.trace_json.proofs.line.version_of.Goals as goal

pub returns-clause-only : goal.returns-clause-only
returns-clause-only c v is =
    absurd (no_version (read c.args.text.now) (view c.in_ok-value.value) c.in_ok-value.ensures.ok (rw c.in-Err-WrongShape.field-0-is at c.in-Err-WrongShape.ensures.gives) v is)

pub returns-clause-fault : goal.returns-clause-fault
returns-clause-fault c =
    version_fault (read c.args.text.now) (view c.in_ok-value.value) c.in_ok-value.ensures.ok (rw c.in-Err-WrongShape.field-0-is at c.in-Err-WrongShape.ensures.gives)
