use Rattle.std.proofs.Common.{ℕ, subst}
use Rattle.vat_connection.specs.Speaking.{Shuts}
use Rattle.vat_connection.proofs.speaker.lack_room.Goals as goal

pub returns : goal.returns
returns c = subst (λ (n : ℕ). Shuts c.args.host.now n c.shut.new.self) c.code.ensures c.shut.ensures
