use Rattle.laws_routes.proofs.DescriptorsSaySo.{says_so}
use Rattle.laws_routes.proofs.sayings.descriptors_say_so.Goals as goal

pub returns : goal.returns
returns c = says_so
