use Rattle.laws_steps.proofs.UsedOnce.{at_start, numbered}
use Rattle.laws_steps.proofs.laws.numbers_used_once.Goals as goal

pub returns : goal.returns
returns c = record {
  start = at_start;
  free = record { commands = λ s c a x t h. let k = numbered.commands s c a x t h in k.1; messages = λ s m x t h. let k = numbered.messages s m x t h in k.1 };
  gone = record { commands = λ s c a x t h. let k = numbered.commands s c a x t h in k.2; messages = λ s m x t h. let k = numbered.messages s m x t h in k.2 };
}
