use Rattle.std.proofs.Common.{sym, ap, ◌∙◌}
use Rattle.std.specs.List.{filter_map}
use Rattle.std.proofs.lemmas.List.{drop_all}
use Rattle.peer_broken.specs.Naming.{broken_name, has_some}
use Rattle.peer_broken.proofs.Parting.{no_name, some_name}
use Rattle.peer_broken.proofs.descriptors.some_broken.Goals as goal

pub loop-descriptor-preserved : goal.loop-descriptor-preserved
loop-descriptor-preserved g c = λ broken tells.
    c.loop-descriptor.invariant broken tells
    ∙ no_name broken c.args.descriptors.now c.loop-descriptor.descriptor-index c.descriptor-item.result c.broken_name.result
    c.loop-descriptor-test.true c.descriptor-item.is (c.broken_name.ensures broken tells) (sym c.is_some.ensures ∙ c.if-is_some.false)

pub returns-then-is_some : goal.returns-then-is_some
returns-then-is_some g c = λ broken tells.
    sym (ap has_some (c.loop-descriptor.invariant broken tells)
    ∙ some_name broken c.args.descriptors.now c.loop-descriptor.descriptor-index c.descriptor-item.result c.broken_name.result
    c.loop-descriptor-test.true c.descriptor-item.is (c.broken_name.ensures broken tells) (sym c.is_some.ensures ∙ c.if-is_some.true))

pub returns : goal.returns
returns g c = λ broken tells.
    sym (ap has_some (c.loop-descriptor.invariant broken tells
    ∙ ap (filter_map (broken_name broken)) (drop_all c.loop-descriptor.descriptor-index c.args.descriptors.now c.loop-descriptor-test.false)))
