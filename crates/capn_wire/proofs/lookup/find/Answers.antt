use Rattle.std.proofs.Common.{sym, ap, ◌∙◌}
use Rattle.capn_wire.proofs.Ends.{by_kind, found_last, stays, goes}
use Rattle.capn_wire.proofs.lookup.find.Goals as goal

pub returns-in-Null : goal.returns-in-Null
returns-in-Null c =
    let i = c.loop-op.invariant in
    ap by_kind (sym c.in-Null.is) ∙ found_last i.0 c.kind.result c.args.path.now c.loop-op.op-index _ (c.kind.ensures i.0 i.1) c.loop-op-test.false i.2

pub returns-in-Capability : goal.returns-in-Capability
returns-in-Capability c =
    let i = c.loop-op.invariant in
    ap by_kind (sym c.in-Capability.is) ∙ found_last i.0 c.kind.result c.args.path.now c.loop-op.op-index _ (c.kind.ensures i.0 i.1) c.loop-op-test.false i.2

pub returns-in-Struct : goal.returns-in-Struct
returns-in-Struct c =
    let i = c.loop-op.invariant in
    ap by_kind (sym c.in-Struct.is) ∙ found_last i.0 c.kind.result c.args.path.now c.loop-op.op-index _ (c.kind.ensures i.0 i.1) c.loop-op-test.false i.2

pub returns-in-List : goal.returns-in-List
returns-in-List c =
    let i = c.loop-op.invariant in
    ap by_kind (sym c.in-List.is) ∙ found_last i.0 c.kind.result c.args.path.now c.loop-op.op-index _ (c.kind.ensures i.0 i.1) c.loop-op-test.false i.2

pub loop-op-preserved-in_default : goal.loop-op-preserved-in_default
loop-op-preserved-in_default c =
    let i = c.loop-op.invariant in
    (i.0, i.1, stays i.0 c.args.path.now c.loop-op.op-index _ _ c.loop-op-test.true c.in_default.not-Field i.2)

pub loop-op-preserved : goal.loop-op-preserved
loop-op-preserved c =
    let i = c.loop-op.invariant in
    let next = c.in-Some.ensures i.0 i.1 in
    (next.0, next.2, goes i.0 next.0 c.args.path.now c.loop-op.op-index c.in-Field.number _ _ c.loop-op-test.true c.in-Field.is next.1 i.2)
