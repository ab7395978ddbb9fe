use Rattle.core_step_checks.proofs.Outgoing.{sent_as}
use Rattle.core_step_checks.proofs.exports.is_sent_as.Goals as goal

pub returns-in-Some : goal.returns-in-Some
returns-in-Some c = sent_as c.args.node.now c.in-Some.sent c.eq.result _ c.in-Some.ensures.sent c.requires.exportable c.eq.ensures
