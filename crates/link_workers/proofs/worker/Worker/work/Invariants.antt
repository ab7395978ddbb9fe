use Rattle.link_workers.proofs.worker.Worker.work.Given as goal

abbrev pub invariant-loop : goal.invariant-loop
invariant-loop g l = g.E.PairEnd.same l.fn.self.end l.self.end
