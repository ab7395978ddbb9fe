use Rattle.vat_core.proofs.Reaching.{begins_standing}
use Rattle.vat_core.proofs.vat.Core.new.Goals as goal

pub invariant_of-result : goal.invariant_of-result
invariant_of-result c = begins_standing c.args.vat c.args.level c.args.bootstrap _ c.new-3.ensures.state c.new-3.ensures.sound c.new-3.ensures.none_taken c.in_ok-outbox.ensures c.new-4.ensures c.in_ok-spare.ensures
