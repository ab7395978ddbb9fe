use Rattle.laws_messages.proofs.Wholes.{in_worlds}
use Rattle.laws_messages.proofs.resolves.exports_stand.Goals as goal

pub returns : goal.returns
returns c = record {
  steady = in_worlds c.sends_raise_counts.ensures;
  scenes = λ a b x h. in_worlds c.sends_raise_counts.ensures a b x.world (let k = c.counts_agree_in_scenes.ensures in k.steady a b x h);
}
