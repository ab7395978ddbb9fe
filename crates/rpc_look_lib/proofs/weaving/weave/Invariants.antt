use Rattle.std.proofs.Common.{◌+◌, List, length}
use Rattle.look_pieces.specs.declared.piece.Side.{Side}
use Rattle.rpc_look_lib.specs.Talking.{stand_of}
use Rattle.rpc_look_lib.specs.Weaving.{rest_in, Weaves}
use Rattle.rpc_look_lib.proofs.weaving.weave.Given as goal

-- the messages that came so far
abbrev pub invariant-messages : goal.invariant-messages
invariant-messages g l = (order : List Side) × Weaves l.at (stand_of l.fn.talk) (rest_in l.fn.left) order (stand_of l.talk) (rest_in l.left)

abbrev pub decreases-messages : goal.decreases-messages
decreases-messages g l = length l.left.client.now + length l.left.server.now
