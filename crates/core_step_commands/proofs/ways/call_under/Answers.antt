use Rattle.std.proofs.Common.{◌+◌, length, IsSome, sym, subst, ◌∙◌}
use Rattle.std.specs.FinMap as map
use Rattle.std.proofs.lemmas.Result.{on_ok_weaker}
use Rattle.rpc_machine.specs.Progress.{Progress}
use Rattle.core_step.specs.InProgress.{progress_of}
use Rattle.core_step_routes.proofs.Behind.{ready_behind}
use Rattle.core_step_commands.proofs.Keeping.{same_under, under_kept}
use Rattle.core_step_commands.proofs.Rooms.{not_full}
use Rattle.core_step_commands.proofs.ways.call_under.Goals as goal

pub returns-clause-called : goal.returns-clause-called
returns-clause-called c =
    let kept = c.keep_outcome-outcome in
    let p = progress_of kept.new.step in
    on_ok_weaker c.hold_under.result (λ h. under_kept (progress_of c.args.step.now) p c.args.request c.args.id.0 kept.result c.args.embargo.0 _ kept.ensures.free kept.ensures.kept (h p)) c.hold_under.ensures.ok

pub returns-clause-ready : goal.returns-clause-ready
returns-clause-ready c =
    let kept = c.keep_outcome-outcome in
    let p = progress_of kept.new.step in
    ready_behind c.hold_under.result kept.new.step c.hold_under.new.store (length c.args.request.caps + 1) kept.ensures.ready c.hold_under.ensures.sound
    (on_ok_weaker c.hold_under.result (λ h. same_under p (record { request = c.args.request; outcome = kept.result }) c.args.embargo.0 _ _ (h p)) c.hold_under.ensures.ok) c.hold_under.ensures.left c.hold_under.ensures.same

pub returns-clause-fits : goal.returns-clause-fits
returns-clause-fits c = λ none there room.
    let kept = c.keep_outcome-outcome in
    let there_still = subst (λ (p : Progress). IsSome (map.get p.state.embargoes c.args.embargo.0)) (sym kept.ensures.kept) there in
    c.hold_under.ensures.never there_still (not_full c.args.step.now kept.new.step c.args.id.0 kept.result kept.ensures.free kept.ensures.kept kept.ensures.ready (kept.ensures.taken ∙ none) room)
