use Rattle.std.proofs.Common.{◌≡◌, ℕ, ◌+◌, ◌<◌, false, true, Bool, List, ◌∷◌, length, drop, get_or, sym, ap, ◌∙◌}
use Rattle.std.specs.Prelude.{◌||◌}
use Rattle.std.specs.List.{list_any}
use Rattle.std.proofs.lemmas.List.{drop_more, drop_all}
use Rattle.rpc_msg.specs.declared.parts.Descriptor.{Descriptor}
use Rattle.peer_tail_calls.specs.Nulling.{is_absent}
use Rattle.peer_tail_calls.proofs.nulls.some_absent.Goals as goal

from_here : (ds : List Descriptor) (i : ℕ) (d : Descriptor) (b : Bool) → i < length ds → d ≡ get_or ds i d → b ≡ is_absent d → list_any is_absent (drop i ds) ≡ (b || list_any is_absent (drop (i + 1) ds))
from_here ds i d b lt is_d is_b =
    ap (list_any is_absent) (drop_more ds i d lt ∙ ap (λ x. x ∷ drop (i + 1) ds) (sym is_d))
    ∙ ap (λ x. x || list_any is_absent (drop (i + 1) ds)) (sym is_b)

pub loop-descriptor-preserved : goal.loop-descriptor-preserved
loop-descriptor-preserved c =
    c.loop-descriptor.invariant ∙ from_here c.args.descriptors.now c.loop-descriptor.descriptor-index c.descriptor-item.result false c.loop-descriptor-test.true c.descriptor-item.is (sym c.if-is_absent.false ∙ c.is_absent.ensures)

pub returns-then-is_absent : goal.returns-then-is_absent
returns-then-is_absent c =
    sym (c.loop-descriptor.invariant ∙ from_here c.args.descriptors.now c.loop-descriptor.descriptor-index c.descriptor-item.result true c.loop-descriptor-test.true c.descriptor-item.is (sym c.if-is_absent.true ∙ c.is_absent.ensures))

pub returns : goal.returns
returns c = sym (c.loop-descriptor.invariant ∙ ap (list_any is_absent) (drop_all c.loop-descriptor.descriptor-index c.args.descriptors.now c.loop-descriptor-test.false))
