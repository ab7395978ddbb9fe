use Rattle.scenes_long_run.proofs.run.Run.let_go.Given as goal

abbrev pub invariant-loop : goal.invariant-loop
invariant-loop g l = g.V.Vats.same l.fn.self.vats l.self.vats
