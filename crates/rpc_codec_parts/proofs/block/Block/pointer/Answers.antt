use Rattle.rpc_codec_parts.proofs.Lists.{pointer_there, pointer_past}
use Rattle.rpc_codec_parts.proofs.block.Block.pointer.Goals as goal

pub returns-then-number-self : goal.returns-then-number-self
returns-then-number-self c = pointer_there c.args.self.now.pointers.now c.args.number _ c.if-number-self.true

pub returns-else-number-self : goal.returns-else-number-self
returns-else-number-self c = pointer_past c.args.self.now.pointers.now c.args.number c.if-number-self.false
