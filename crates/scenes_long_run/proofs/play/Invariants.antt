use Rattle.scenes_long_run.proofs.play.Given as goal

abbrev pub invariant-loop : goal.invariant-loop
invariant-loop g l = g.V.Vats.same l.fn.run.vats l.run.vats
