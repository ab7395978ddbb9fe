use Rattle.rpc_codec.proofs.Decoded.{read_back}
use Rattle.rpc_codec.proofs.laws.trees_read_back.Goals as goal

pub returns : goal.returns
returns c = read_back
