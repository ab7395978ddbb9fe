use Rattle.std.proofs.Common.{true, map}
use Rattle.laws_wired.specs.Wires.{happening_at, world_at}
use Rattle.laws_over_wires.proofs.laws.wired_runs_are_sound.Goals as goal

pub returns : goal.returns
returns c = λ letters root_a root_b xs w h.
    let i = c.wired_runs_are_runs.ensures letters root_a root_b xs w h in
    record { there = i; sound = c.every_run_is_sound.ensures root_a root_b (map (happening_at true) i.happened) (world_at true i.worlds) i.ran }
