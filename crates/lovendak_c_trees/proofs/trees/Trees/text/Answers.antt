use Rattle.lovendak_c_trees.specs.Contents.{shown_all}
use Rattle.lovendak_c_trees.specs.Looks.{HandsNothing, TextIn, payload_at, standing_at}
use Rattle.capn_reading.specs.Reading.{root_of, tree_read}
use Rattle.lovendak_c_trees.proofs.Looked.{found, matched}
use Rattle.std.proofs.Common.{Result, Err, refl, sym, subst, inl, inr}
use Rattle.capn_reading.specs.Looking.{IsTextOf}
use Rattle.lovendak_c_trees.specs.declared.fault.TreeFault.{TreeFault}
use Rattle.lovendak_c_trees.specs.declared.fault.TreeFault.TheVariants.{Nothing}
use Rattle.lovendak_c_trees.proofs.trees.Trees.text.Goals as goal

pub returns-in_default-text : goal.returns-in_default-text
returns-in_default-text c =
    let answer : Result (Unit {0}) TreeFault = Err Nothing in
    let p = payload_at (shown_all c.args.self.now.contents.items) c.args.at in
    let x = c.in-Some-place_at.ensures in
    let is = found p c.in-Some.payload.now (tree_read (root_of c.view-view.result.message c.view-view.result.caps)) x.0 c.args.path.now c.in-Some.ensures c.view-view.ensures x.1 in
    matched (standing_at p c.args.path.now) x.0 (HandsNothing c.args.out.now c.args.len.now answer c.args.out.now c.args.len.now) (λ t. TextIn t c.args.out.now c.args.len.now answer c.args.out.now c.args.len.now) is
    (inr (c.in_default-text.ensures x.0 x.2, (refl, refl, refl)))

pub returns : goal.returns
returns c =
    let p = payload_at (shown_all c.args.self.now.contents.items) c.args.at in
    let x = c.in-Some-place_at.ensures in
    let is = found p c.in-Some.payload.now (tree_read (root_of c.view-view.result.message c.view-view.result.caps)) x.0 c.args.path.now c.in-Some.ensures c.view-view.ensures x.1 in
    matched (standing_at p c.args.path.now) x.0 (HandsNothing c.args.out.now c.args.len.now c.copy_out.result c.copy_out.new.out c.copy_out.new.len) (λ t. TextIn t c.args.out.now c.args.len.now c.copy_out.result c.copy_out.new.out c.copy_out.new.len) is
    (inl (c.as_bytes.result.now, subst (IsTextOf x.0) (sym c.as_bytes.ensures.value) (c.in-Some-text.ensures x.0 x.2), c.copy_out.ensures))
