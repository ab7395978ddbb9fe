use Rattle.lovendak_c_trees.specs.Contents.{shown_all}
use Rattle.lovendak_c_trees.specs.Looks.{NumberIn, payload_at, standing_at}
use Rattle.capn_reading.specs.Reading.{root_of, tree_read}
use Rattle.lovendak_c_trees.proofs.Looked.{found, told}
use Rattle.lovendak_c_trees.proofs.trees.Trees.number.Goals as goal

pub returns : goal.returns
returns c =
    let p = payload_at (shown_all c.args.self.now.contents.items) c.args.at in
    let x = c.in-Some-place_at.ensures in
    let is = found p c.in-Some.payload.now (tree_read (root_of c.view-view.result.message c.view-view.result.caps)) x.0 c.args.path.now c.in-Some.ensures c.view-view.ensures x.1 in
    told (standing_at p c.args.path.now) x.0 c.number_of.result (λ t. NumberIn t c.args.bits c.args.index c.number_of.result) is (c.number_of.ensures x.0 x.2)
