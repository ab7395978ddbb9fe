use Rattle.std.proofs.Common.{refl}
use Rattle.rpc_journal.proofs.laws.one_call_is_read.Goals as goal

pub returns : goal.returns
returns c = record { made_once = refl; delivered_once = refl; reached = (1, refl); brought_too = (1, refl) }
