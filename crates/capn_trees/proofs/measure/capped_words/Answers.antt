use Rattle.std.proofs.Common.{sym}
use Rattle.capn_trees.proofs.Found.{capped_low, capped_high}
use Rattle.capn_trees.proofs.measure.capped_words.Goals as goal

pub returns : goal.returns
returns c = sym (capped_low c.args.count (rw c.from.ensures at c.if-from-count.false))

pub returns-then-from-count : goal.returns-then-from-count
returns-then-from-count c = sym (capped_high c.args.count (rw c.from.ensures at c.if-from-count.true))
