use Rattle.rpc_look_lib.proofs.Frames.{kept_start}
use Rattle.rpc_look_lib.proofs.stream.Stream.new.Goals as goal

pub invariant_of-result : goal.invariant_of-result
invariant_of-result c = kept_start c.new.result c.new.ensures
