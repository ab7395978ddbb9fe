use Rattle.std.proofs.Common.{arith, refl}
use Rattle.std.specs.Prelude.{slice_set}
use Rattle.lovendak_c_trees.proofs.Sets.{put_seen}
use Rattle.lovendak_c_trees.proofs.leaves.put_tree.Goals as goal

pub returns : goal.returns
returns c =
    let few = c.args.pointers.now.ok.0 in
    put_seen c.args.pointers.now.items (slice_set c.args.pointers.now.items c.args.pointer c.args.tree) c.args.pointer c.args.tree (omega (arith, few)) refl
