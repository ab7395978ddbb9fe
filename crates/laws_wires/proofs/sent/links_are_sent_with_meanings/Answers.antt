use Rattle.laws_wires.proofs.LinksRead.{links_say_so}
use Rattle.laws_wires.proofs.sent.links_are_sent_with_meanings.Goals as goal

pub returns : goal.returns
returns c = links_say_so
