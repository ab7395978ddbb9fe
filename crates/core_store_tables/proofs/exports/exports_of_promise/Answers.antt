use Rattle.std.proofs.Common.{None, Some, sym, ◌∙◌}
use Rattle.core_store_tables.proofs.OfPromise.{listed}
use Rattle.core_store_tables.proofs.exports.exports_of_promise.Goals as goal

pub returns-in_default : goal.returns-in_default
returns-in_default c = c.new.ensures ∙ sym (listed c.args.store.now.exports.entries c.args.p None c.find.ensures.one_each c.in_default.ensures.id)

pub returns-in-Ok : goal.returns-in-Ok
returns-in-Ok c = c.in-Ok.ensures.ok ∙ sym (listed c.args.store.now.exports.entries c.args.p (Some c.in-Some.id) c.find.ensures.one_each c.in-Some.ensures.id)
