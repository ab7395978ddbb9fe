use Rattle.std.proofs.Common.{nat_lt, ap, ◌∙◌}
use Rattle.core_queries.proofs.Counted.{import_counted}
use Rattle.core_queries.proofs.peers.names_import.Goals as goal

pub returns : goal.returns
returns c = ap (λ n. nat_lt 0 n) (c.of_import.ensures ∙ import_counted c.args.store.now c.args.id.0 c.requires.none_taken c.requires.sound)
