use Rattle.std.proofs.Common.{[]}
use Rattle.rpc_check.specs.Kept.{HasTaken}
use Rattle.trace_file.proofs.Going.{holds_all}
use Rattle.trace_file.proofs.check.check_trace.Goals as goal

pub returns-in-Ok-clause-ok : goal.returns-in-Ok-clause-ok
returns-in-Ok-clause-ok c =
    let taken = holds_all (λ h s. HasTaken s.checker h) [] c.in-Ok.ensures.ok.0 (record { checker = c.new.result }) c.follow.new.follower c.in-Ok.ensures.ok.2 c.new.ensures in (
      c.in-Ok.field-0,
      c.in-Ok.ensures.ok.0,
      c.in-Ok.ensures.ok.1,
      c.verdict.ensures c.in-Ok.ensures.ok.0 taken,
    )
