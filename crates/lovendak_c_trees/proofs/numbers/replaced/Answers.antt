use Rattle.lovendak_c_trees.proofs.Bits.{replaced_is}
use Rattle.lovendak_c_trees.proofs.numbers.replaced.Goals as goal

pub returns : goal.returns
returns c = replaced_is c.args.word c.args.from c.args.bits c.bits_of-old.result c.args.number c.bits_of-old.ensures c.ranges.word.fits
