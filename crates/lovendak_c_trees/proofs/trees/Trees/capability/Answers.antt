use Rattle.lovendak_c_trees.specs.Contents.{shown_all}
use Rattle.lovendak_c_trees.specs.Looks.{CapabilityIn, payload_at, standing_at}
use Rattle.capn_reading.specs.Reading.{root_of, tree_read}
use Rattle.lovendak_c_trees.proofs.Looked.{found, is_capability, is_none, told}
use Rattle.std.proofs.Common.{ℕ, Result, Ok, Err}
use Rattle.lovendak_c_trees.specs.declared.fault.TreeFault.{TreeFault}
use Rattle.lovendak_c_trees.specs.declared.fault.TreeFault.TheVariants.{Nothing}
use Rattle.lovendak_c_trees.proofs.trees.Trees.capability.Goals as goal

pub returns-in-Capability : goal.returns-in-Capability
returns-in-Capability c =
    let answer : Result ℕ TreeFault = Ok c.in-Capability.index in
    let p = payload_at (shown_all c.args.self.now.contents.items) c.args.at in
    let x = c.in-Some-place_at.ensures in
    let is = found p c.in-Some.payload.now (tree_read (root_of c.view-view.result.message c.view-view.result.caps)) x.0 c.args.path.now c.in-Some.ensures c.view-view.ensures x.1 in
    told (standing_at p c.args.path.now) x.0 answer (λ t. CapabilityIn t answer) is (is_capability x.0 c.in-Capability.index (c.in-Capability.ensures x.0 x.2))

pub returns-in_default-kind : goal.returns-in_default-kind
returns-in_default-kind c =
    let answer : Result ℕ TreeFault = Err Nothing in
    let p = payload_at (shown_all c.args.self.now.contents.items) c.args.at in
    let x = c.in-Some-place_at.ensures in
    let is = found p c.in-Some.payload.now (tree_read (root_of c.view-view.result.message c.view-view.result.caps)) x.0 c.args.path.now c.in-Some.ensures c.view-view.ensures x.1 in
    told (standing_at p c.args.path.now) x.0 answer (λ t. CapabilityIn t answer) is (is_none x.0 c.kind.result (c.kind.ensures x.0 x.2) c.in_default-kind.not-Capability)
