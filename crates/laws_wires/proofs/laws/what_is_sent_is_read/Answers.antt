use Rattle.laws_wires.proofs.SentRead.{sent_is_read}
use Rattle.laws_wires.proofs.laws.what_is_sent_is_read.Goals as goal

pub returns : goal.returns
returns c = sent_is_read
