use Rattle.std.proofs.Common.{◌≡◌, true, false, Option, sym, subst}
use Rattle.rpc_machine.specs.declared.command.Granted.TheVariants as granted
use Rattle.rpc_msg.specs.declared.exception.Exception.{Exception}
use Rattle.rpc_machine.specs.Progress.{Progress}
use Rattle.rpc_machine.specs.Commands.{MakesCall}
use Rattle.core_steps.specs.Calling.{EndsIf}
use Rattle.std.specs.FinMap as map
use Rattle.core_store.specs.Holding.{state_of}
use Rattle.core_step.specs.InProgress.{progress_of}
use Rattle.core_steps.proofs.Allowed.{has_room, has_ref}
use Rattle.core_steps.proofs.Going.{goes_somewhere}
use Rattle.core_steps.proofs.Breaking.{ends_if_broken}
use Rattle.core_steps.proofs.calls.make.Goals as goal

pub unreachable-requires : goal.unreachable-requires
unreachable-requires c =
    let s = state_of c.args.step.now.store in
    let whole = c.nodes_are_there.ensures.there s c.requires.reached in
    let stops = c.nodes_settle.ensures.stops s c.requires.reached in
    let paired = c.embargoes_pair.ensures.paired s c.requires.reached in
    let goes = goes_somewhere s whole stops c.nodes_settle.ensures.settles paired _ c.args.call.reference.0 (has_ref s c.args.call c.requires.allowed) c.requires.provided.text_room in
    let bad : false ≡ true = c.in_default.ensures.fits c.requires.none_taken goes (has_room s c.args.call c.requires.allowed) in
    cc

pub settle_if_ended-requires-clause-ends : goal.settle_if_ended-requires-clause-ends
settle_if_ended-requires-clause-ends c =
    let s = state_of c.args.step.now.store in
    let whole = c.nodes_are_there.ensures.there s c.requires.reached in
    let stops = c.nodes_settle.ensures.stops s c.requires.reached in
    let acts = subst (λ (d : Progress). MakesCall d c.args.call (map.get d.state.refs c.args.call.reference.0) (granted.Call c.in-Ok.id) (progress_of c.call_kept.new.step)) c.requires.begun c.in-Ok.ensures.acts in
    let ends = ends_if_broken s c.args.call c.in-Ok.id (progress_of c.call_kept.new.step) whole stops c.nodes_settle.ensures.settles acts in
    subst (λ (o : Option Exception). EndsIf (progress_of c.call_kept.new.step) c.in-Ok.id o) (sym c.requires.provided.told) ends

pub returns-clause-made : goal.returns-clause-made
returns-clause-made c =
    let acts = subst (λ (d : Progress). MakesCall d c.args.call (map.get d.state.refs c.args.call.reference.0) (granted.Call c.in-Ok.id) (progress_of c.call_kept.new.step)) c.requires.begun c.in-Ok.ensures.acts in
    (progress_of c.call_kept.new.step, acts, c.settle_if_ended.ensures.drains)
