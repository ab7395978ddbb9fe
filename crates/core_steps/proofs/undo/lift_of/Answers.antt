use Rattle.std.proofs.Common.{Option, sym, subst}
use Rattle.std.specs.FinMap as map
use Rattle.rpc_msg.specs.declared.ids.EmbargoId.{EmbargoId}
use Rattle.rpc_machine.specs.declared.entries.Reference.{Reference}
use Rattle.core_store.specs.Holding.{state_of}
use Rattle.core_steps.specs.Undoing.{LiftsFor, LiftsOf}
use Rattle.core_steps.proofs.Leading.{lifted_at}
use Rattle.core_steps.proofs.undo.lift_of.Goals as goal

pub returns-clause-lifted : goal.returns-clause-lifted
returns-clause-lifted c =
    let s = state_of c.args.store.now in
    let t = state_of c.lift.new.store in
    let hs = c.lift.new.store.waits.taken in
    subst (λ (o : Option Reference). LiftsOf s o t hs) (sym c.in-Some.is)
    (subst (λ (o : Option EmbargoId). LiftsFor s o t hs) (sym c.in-Some-embargo.is)
    (lifted_at c.args.store.now c.lift.new.store c.in-Some-embargo.embargo.0 (map.get s.embargoes c.in-Some-embargo.embargo.0) c.lift.result c.lift.ensures.ok c.lift.ensures.same c.lift.ensures.never c.requires.none_taken))
