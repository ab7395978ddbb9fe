use Rattle.vat_hosts.proofs.Carried.{exchanged}
use Rattle.vat_hosts.proofs.laws.exchange_hands_over.Goals as goal

pub returns : goal.returns
returns c = λ rounds a b a_new b_new h. exchanged rounds a b a_new b_new h
