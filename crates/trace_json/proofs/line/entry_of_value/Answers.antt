use Rattle.serde_json.specs.View.{view}
use Rattle.trace_json.proofs.Ladder.{same_bare, fault_shape, no_fault, only_by_fault, filled_ok, filled_same, filled_fault}
use Rattle.trace_json.proofs.line.entry_of_value.Goals as goal

pub returns-in-None-clause-same : goal.returns-in-None-clause-same
returns-in-None-clause-same c = same_bare c.args.version (view c.args.value.now) c.in-Ok.entry (rw c.in-None.is at c.in-Ok.ensures.gives)

pub returns-in-Some-clause-ok : goal.returns-in-Some-clause-ok
returns-in-Some-clause-ok c =
    let h = rw c.in-Some.is at c.in-Ok.ensures.ok in
    filled_ok c.args.version (view c.args.value.now) c.in-Ok.entry (c.in-Some.raw.text.now, c.in-Some.raw.caps) h.0 h.1 c.with_payload.result c.with_payload.ensures.ok

pub returns-in-Some-clause-same : goal.returns-in-Some-clause-same
returns-in-Some-clause-same c =
    filled_same c.args.version (view c.args.value.now) c.in-Ok.entry (c.in-Some.raw.text.now, c.in-Some.raw.caps) (rw c.in-Some.is at c.in-Ok.ensures.gives) c.with_payload.result c.with_payload.ensures.ok

pub returns-in-Some-clause-fault : goal.returns-in-Some-clause-fault
returns-in-Some-clause-fault c =
    let h = rw c.in-Some.is at c.in-Ok.ensures.ok in
    filled_fault c.args.version (view c.args.value.now) c.in-Ok.entry (c.in-Some.raw.text.now, c.in-Some.raw.caps) (rw c.in-Some.is at c.in-Ok.ensures.gives) h.0 h.1 h.2 c.with_payload.result c.with_payload.ensures.fault

pub returns-in-Some-clause-only : goal.returns-in-Some-clause-only
returns-in-Some-clause-only c = only_by_fault c.args.version (view c.args.value.now) c.with_payload.result (returns-in-Some-clause-fault c)

pub returns-in-Err-WrongShape-clause-fault : goal.returns-in-Err-WrongShape-clause-fault
returns-in-Err-WrongShape-clause-fault c =
    fault_shape c.args.version (view c.args.value.now) (rw c.in-Err-WrongShape.field-0-is at c.in-Err-WrongShape.ensures.gives) c.fault_of_shape.result c.fault_of_shape.ensures

pub returns-in-Err-WrongShape-clause-only : goal.returns-in-Err-WrongShape-clause-only
returns-in-Err-WrongShape-clause-only c = no_fault c.args.version (view c.args.value.now) c.fault_of_shape.result (returns-in-Err-WrongShape-clause-fault c)
