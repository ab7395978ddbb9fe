use Rattle.std.proofs.Common.{ap, ◌∙◌, ℕ}
use Rattle.std.specs.Arc.{arc_value}
use Rattle.std.specs.Global.{Vec}
use Rattle.capn_wire.specs.Payloads.{tree_of}
use Rattle.capn_reading.proofs.Rooted.{framed_read, not_unframed}
use Rattle.capn_wire.proofs.payload.Payload.tree.Goals as goal

pub unreachable-requires : goal.unreachable-requires
unreachable-requires c =
    let same = c.as_slice.ensures.value ∙ ap (λ (v : Vec ℕ). v.items) c.deref.ensures in
    not_unframed (arc_value c.self.inside.bytes).items c.self.inside.caps c.in_default.field-0 c.self.invariant.encoded (rw same at c.in_default.ensures)

pub build_tree-requires : goal.build_tree-requires
build_tree-requires c =
    let same = c.as_slice.ensures.value ∙ ap (λ (v : Vec ℕ). v.items) c.deref.ensures in
    (framed_read (arc_value c.self.inside.bytes).items c.self.inside.caps c.in-Ok.message c.self.invariant.encoded (rw same at c.in-Ok.ensures)).0

pub returns : goal.returns
returns c =
    let same = c.as_slice.ensures.value ∙ ap (λ (v : Vec ℕ). v.items) c.deref.ensures in
    c.in_ok-tree.ensures
    ∙ (framed_read (arc_value c.self.inside.bytes).items c.self.inside.caps c.in-Ok.message c.self.invariant.encoded (rw same at c.in-Ok.ensures)).1
    ∙ ap tree_of c.self.view_is
