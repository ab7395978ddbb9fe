use Rattle.std.proofs.Common.{refl}
use Rattle.lovendak_c_trees.proofs.Looked.{number_is}
use Rattle.lovendak_c_trees.proofs.read.number_of.Goals as goal

pub returns-in-1 : goal.returns-in-1
returns-in-1 c = λ t h. number_is c.args.bits 1 c.args.index t c.sized_number.result c.in-1.is refl (c.sized_number.ensures t h)

pub returns-in-8 : goal.returns-in-8
returns-in-8 c = λ t h. number_is c.args.bits 8 c.args.index t c.sized_number-in-8.result c.in-8.is refl (c.sized_number-in-8.ensures t h)

pub returns-in-16 : goal.returns-in-16
returns-in-16 c = λ t h. number_is c.args.bits 16 c.args.index t c.sized_number-in-16.result c.in-16.is refl (c.sized_number-in-16.ensures t h)

pub returns-in-32 : goal.returns-in-32
returns-in-32 c = λ t h. number_is c.args.bits 32 c.args.index t c.sized_number-in-32.result c.in-32.is refl (c.sized_number-in-32.ensures t h)

pub returns-in-64 : goal.returns-in-64
returns-in-64 c = λ t h. number_is c.args.bits 64 c.args.index t c.sized_number-in-64.result c.in-64.is refl (c.sized_number-in-64.ensures t h)
