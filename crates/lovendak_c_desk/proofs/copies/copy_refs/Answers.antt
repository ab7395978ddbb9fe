use Rattle.lovendak_c_desk.proofs.Fronts.{copied_more}
use Rattle.lovendak_c_desk.proofs.copies.copy_refs.Goals as goal

pub loop-i-preserved : goal.loop-i-preserved
loop-i-preserved c = copied_more c.args.refs.now c.args.out.now c.loop-i.out c.loop-i.i (record { 0 = 0 }) c.loop-i-test.true c.requires c.loop-i.invariant
