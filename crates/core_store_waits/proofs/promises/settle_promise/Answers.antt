use Rattle.std.proofs.Common.{ap, ◌∙◌}
use Rattle.rpc_machine.specs.declared.node.Node.TheVariants as node
use Rattle.core_refcounts.specs.Names.{Names, unnamed}
use Rattle.core_store_waits.proofs.Promising.{sound_fixed}
use Rattle.core_store_waits.proofs.promises.settle_promise.Goals as goal

pub returns-clause-sound : goal.returns-clause-sound
returns-clause-sound c =
    sound_fixed c.args.store.now c.args.key c.args.to c.fix.new.self c.sub.new.self c.requires.sound c.requires.slack c.in_ok-fix.ensures.handed_out c.in_ok-fix.ensures.ok
    (c.sub.ensures ∙ ap (λ (d : Names). unnamed d (node.Promise c.args.key)) c.in-Ok.ensures.ok)
