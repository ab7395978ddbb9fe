use Rattle.laws_sound.proofs.Hosted.{roots_hosted}
use Rattle.laws_sound.proofs.laws.roots_are_hosted.Goals as goal

pub returns : goal.returns
returns c = roots_hosted
