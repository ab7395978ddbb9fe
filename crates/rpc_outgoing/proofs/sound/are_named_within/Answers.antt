use Rattle.std.proofs.Common.{◌≡◌, ℕ, ◌+◌, ◌<◌, false, true, Bool, List, ◌∷◌, length, drop, get_or, sym, ap, ◌∙◌}
use Rattle.std.specs.Prelude.{◌&&◌}
use Rattle.std.specs.List.{list_all}
use Rattle.std.proofs.lemmas.List.{drop_more, drop_all}
use Rattle.rpc_msg.specs.declared.parts.Descriptor.{Descriptor}
use Rattle.rpc_outgoing.specs.Outflows.{is_named_within}
use Rattle.rpc_outgoing.proofs.sound.are_named_within.Goals as goal

from_here : (ds : List Descriptor) (i : ℕ) (d : Descriptor) (b : Bool) → i < length ds → d ≡ get_or ds i d → b ≡ is_named_within d
    → list_all is_named_within (drop i ds) ≡ (b && list_all is_named_within (drop (i + 1) ds))
from_here ds i d b lt is_d is_b =
    ap (list_all is_named_within) (drop_more ds i d lt ∙ ap (λ x. x ∷ drop (i + 1) ds) (sym is_d))
    ∙ ap (λ x. x && list_all is_named_within (drop (i + 1) ds)) (sym is_b)

pub loop-descriptor-preserved : goal.loop-descriptor-preserved
loop-descriptor-preserved c =
    c.loop-descriptor.invariant ∙ from_here c.args.descriptors.now c.loop-descriptor.descriptor-index c.descriptor-item.result true c.loop-descriptor-test.true c.descriptor-item.is (sym c.if-not-is_named_within.false ∙ c.is_named_within.ensures)

pub returns-then-not-is_named_within : goal.returns-then-not-is_named_within
returns-then-not-is_named_within c =
    sym (c.loop-descriptor.invariant ∙ from_here c.args.descriptors.now c.loop-descriptor.descriptor-index c.descriptor-item.result false c.loop-descriptor-test.true c.descriptor-item.is (sym c.if-not-is_named_within.true ∙ c.is_named_within.ensures))

pub returns : goal.returns
returns c = sym (c.loop-descriptor.invariant ∙ ap (list_all is_named_within) (drop_all c.loop-descriptor.descriptor-index c.args.descriptors.now c.loop-descriptor-test.false))
