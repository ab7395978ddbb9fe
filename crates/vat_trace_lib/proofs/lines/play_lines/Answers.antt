use Rattle.std.proofs.Common.{◌+◌, sym, subst}
use Rattle.vat_trace_lib.specs.Playing.{StopsAt}
use Rattle.vat_trace_lib.proofs.Going.{plays_more, unnamed_next}
use Rattle.vat_trace_lib.proofs.lines.play_lines.Goals as goal

pub returns-in-Err-Name : goal.returns-in-Err-Name
returns-in-Err-Name c =
    subst (λ fault. StopsAt c.args.world.now c.args.names.now c.args.lines.now (c.loop-i.i + 1) fault c.play_line.new.world c.play_line.new.names) (sym c.in-Err-Name.fault-is)
    (unnamed_next _ _ _ _ _ _ _ _ _ _ _ _ c.loop-i-test.true c.index-lines-i.is c.loop-i.invariant c.in-Err-Name.is c.in-Err-Name.field-0-is c.play_line.ensures)

pub loop-i-preserved : goal.loop-i-preserved
loop-i-preserved c =
    plays_more _ _ _ _ _ _ _ _ _ c.loop-i-test.true c.index-lines-i.is c.loop-i.invariant c.in-Ok-play_line.ensures
