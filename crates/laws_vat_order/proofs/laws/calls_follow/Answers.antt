use Rattle.laws_vat_order.proofs.Following.{calls_follow}
use Rattle.laws_vat_order.proofs.laws.calls_follow.Goals as goal

pub returns : goal.returns
returns c = calls_follow c.settled_stays.ensures.leads
