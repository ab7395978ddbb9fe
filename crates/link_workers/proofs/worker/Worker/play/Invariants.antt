use Rattle.std.proofs.Common.{take}
use Rattle.script_language.specs.Bindings.{no_names}
use Rattle.link_workers.specs.Playing.{Plays}
use Rattle.link_workers.proofs.worker.Worker.play.Given as goal

abbrev pub invariant-loop-i : goal.invariant-loop-i
invariant-loop-i g l =
    g.E.PairEnd.same l.fn.self.end l.self.end × Plays g.E.PairEnd.steps l.fn.job.vat l.fn.self.end no_names (take l.i l.fn.job.lines.now) l.self.end l.self.names
