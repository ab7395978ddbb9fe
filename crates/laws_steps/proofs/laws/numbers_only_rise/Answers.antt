use Rattle.laws_steps.proofs.UsedOnce.{numbered}
use Rattle.laws_steps.proofs.laws.numbers_only_rise.Goals as goal

pub returns : goal.returns
returns c = record { commands = λ s c a x t h. let k = numbered.commands s c a x t h in k.0; messages = λ s m x t h. let k = numbered.messages s m x t h in k.0 }
