use Rattle.link_workers.specs.Playing.{Idles}
use Rattle.link_workers.proofs.worker.Worker.take_frame.Given as goal

abbrev pub invariant-loop : goal.invariant-loop
invariant-loop g l =
    g.E.PairEnd.same l.fn.self.end l.self.end × Idles g.E.PairEnd.steps l.fn.job.vat l.fn.self.end l.fn.self.names l.counter l.self.end l.self.names
