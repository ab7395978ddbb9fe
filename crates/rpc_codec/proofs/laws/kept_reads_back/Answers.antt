use Rattle.rpc_codec.proofs.KeptBack.{kept_back}
use Rattle.rpc_codec.proofs.laws.kept_reads_back.Goals as goal

pub returns : goal.returns
returns c = kept_back
