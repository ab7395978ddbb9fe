use Rattle.std.proofs.Common.{ap, sym, ◌∙◌, drop}
use Rattle.capn_trees.specs.Trees.{packed}
use Rattle.capn_trees.proofs.Viewed.{view_void}
use Rattle.capn_reading.specs.Segments.{segment_of}
use Rattle.capn_reading.proofs.Building.{elements_void}
use Rattle.capn_reading.proofs.build.packed_items.Goals as goal

pub returns-in-Void : goal.returns-in-Void
returns-in-Void c = rw c.in-Void.is (view_void c.args.count ∙ ap (packed 0) (sym (elements_void (drop c.args.start (segment_of c.args.message.now c.args.segment)) 0 c.args.count)))

pub returns-in-Bit : goal.returns-in-Bit
returns-in-Bit c = rw c.in-Bit.is c.elements_at.ensures

pub returns-in-Byte : goal.returns-in-Byte
returns-in-Byte c = rw c.in-Byte.is c.bytes_at.ensures

pub returns-in-TwoBytes : goal.returns-in-TwoBytes
returns-in-TwoBytes c = rw c.in-TwoBytes.is c.elements_at-in-TwoBytes.ensures

pub returns-in-FourBytes : goal.returns-in-FourBytes
returns-in-FourBytes c = rw c.in-FourBytes.is c.elements_at-in-FourBytes.ensures

pub returns-in-EightBytes : goal.returns-in-EightBytes
returns-in-EightBytes c = rw c.in-EightBytes.is c.elements_at-in-EightBytes.ensures

pub elements_at-requires-clause-within : goal.elements_at-requires-clause-within
elements_at-requires-clause-within c = rw c.in-Bit.is at c.requires

pub bytes_at-requires : goal.bytes_at-requires
bytes_at-requires c = rw c.in-Byte.is at c.requires

pub elements_at-requires-in-TwoBytes-clause-within : goal.elements_at-requires-in-TwoBytes-clause-within
elements_at-requires-in-TwoBytes-clause-within c = rw c.in-TwoBytes.is at c.requires

pub elements_at-requires-in-FourBytes-clause-within : goal.elements_at-requires-in-FourBytes-clause-within
elements_at-requires-in-FourBytes-clause-within c = rw c.in-FourBytes.is at c.requires

pub elements_at-requires-in-EightBytes-clause-within : goal.elements_at-requires-in-EightBytes-clause-within
elements_at-requires-in-EightBytes-clause-within c = rw c.in-EightBytes.is at c.requires
