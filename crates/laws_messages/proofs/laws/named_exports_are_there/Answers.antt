use Rattle.laws_runs.proofs.Kept.{in_steady_worlds}
use Rattle.laws_messages.proofs.Finding.{are_kept, in_world}
use Rattle.laws_messages.proofs.laws.named_exports_are_there.Goals as goal

pub returns : goal.returns
returns c = record {
  steady = λ a b w h v m ms e. in_world w v m ms (in_steady_worlds (are_kept c.sends_raise_counts.ensures) a b w h) e;
  scenes = λ a b x h v m ms e. in_world x.world v m ms (in_steady_worlds (are_kept c.sends_raise_counts.ensures) a b x.world (let k = c.counts_agree_in_scenes.ensures in k.steady a b x h)) e;
}
