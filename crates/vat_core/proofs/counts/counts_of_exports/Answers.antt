use Rattle.std.proofs.Common.{◌∙◌}
use Rattle.std.specs.FinMap as map
use Rattle.vat_core.proofs.Countable.{exports_counted}
use Rattle.vat_core.proofs.counts.counts_of_exports.Goals as goal

pub returns : goal.returns
returns c = c.from_vec.ensures ∙ c.in_ok-counts.ensures ∙ exports_counted (map.entries c.args.exports.now.entries)
