use Rattle.std.proofs.Common.{◌+◌, ◌<◌, ◌^◌, length, take, refl, sym, subst, arith}
use Rattle.std.proofs.lemmas.List.Elements.{All-more, All-same}
use Rattle.std.proofs.lemmas.List.{take_all}
use Rattle.rpc_machine.specs.declared.node.Node.{Node}
use Rattle.core_refcounts.specs.Names.{times_named}
use Rattle.core_refcounts.proofs.names.Names.can_add.Goals as goal

pub loop-node-preserved : goal.loop-node-preserved
loop-node-preserved c =
    let P : Node → Type 0 = λ n. times_named c.args.self.now n + length c.args.nodes.now < 2 ^ 64 in
    let here : P c.node-item.result = omega (arith, c.of_node.ensures, c.if-most-of_node.false) in
    All-more P c.args.nodes.now c.loop-node.node-index c.node-item.result c.loop-node-test.true c.loop-node.invariant (subst P c.node-item.is here)

pub returns : goal.returns
returns c =
    let P : Node → Type 0 = λ n. times_named c.args.self.now n + length c.args.nodes.now < 2 ^ 64 in (
      λ yes. All-same P c.args.nodes.now (take c.loop-node.node-index c.args.nodes.now) (sym (take_all c.loop-node.node-index c.args.nodes.now c.loop-node-test.false)) c.loop-node.invariant,
      λ all. refl,
    )
