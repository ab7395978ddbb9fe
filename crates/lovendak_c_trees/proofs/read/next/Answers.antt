use Rattle.std.proofs.Common.{ap, None, Option}
use Rattle.std.specs.Prelude.{if◌then◌else◌, nat_lt}
use Rattle.capn_trees.specs.Trees.{Tree}
use Rattle.capn_reading.specs.Looking.{field}
use Rattle.lovendak_c_trees.specs.Looks.{or_else}
use Rattle.lovendak_c_trees.proofs.read.next.Goals as goal

pub returns-in-Some : goal.returns-in-Some
returns-in-Some c = λ t h.
    let i = c.in-Some.ensures t h in
    (i.0, ap (λ (o : Option Tree). or_else o (if nat_lt 65535 c.args.number then None else field t c.args.number)) i.1, i.2)
