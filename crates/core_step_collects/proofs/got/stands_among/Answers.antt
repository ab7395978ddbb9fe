use Rattle.std.proofs.Common.{◌-◌, ◌∷◌, [], ap, ◌∙◌, arith}
use Rattle.rpc_msg.specs.declared.parts.Descriptor.{Descriptor}
use Rattle.rpc_msg.specs.Messages.{given}
use Rattle.rpc_machine.specs.declared.node.Node.{Node}
use Rattle.core_step_collects.proofs.got.stands_among.Goals as goal

pub returns-then-gives_the_same : goal.returns-then-gives_the_same
returns-then-gives_the_same c = λ so.
    let same = ap (λ (x : Descriptor × Node). given (x.0 ∷ [])) c.index-caps-at.is ∙ c.gives_the_same.ensures c.if-gives_the_same.true in
    (c.loop-at.at - 1, omega (arith, c.loop-at-test.true, c.loop-at.invariant), (c.index-caps-at.result, c.index-caps-at.is, same))
