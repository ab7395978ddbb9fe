use Rattle.std.proofs.Common.{◌∙◌}
use Rattle.std.proofs.lemmas.Result.{on_ok_weaker}
use Rattle.core_step.specs.InProgress.{progress_of}
use Rattle.core_step_commands.proofs.Keeping.{here_kept}
use Rattle.core_step_commands.proofs.Rooms.{open_kept, room_kept}
use Rattle.core_step_commands.proofs.ways.call_here.Goals as goal

pub returns-clause-called : goal.returns-clause-called
returns-clause-called c =
    let kept = c.keep_outcome-outcome in
    on_ok_weaker c.route_kept.result (λ h. here_kept (progress_of c.args.step.now) (progress_of kept.new.step) c.args.request c.args.id.0 kept.result c.args.head _ kept.ensures.free kept.ensures.kept h) c.route_kept.ensures.routed

pub returns-clause-fits : goal.returns-clause-fits
returns-clause-fits c = λ none there room.
    let kept = c.keep_outcome-outcome in
    let x = c.args.step.now in
    let mid = kept.new.step in
    c.route_kept.ensures.fits (kept.ensures.taken ∙ none)
    (open_kept x mid c.args.id.0 kept.result kept.ensures.free kept.ensures.kept _ c.args.head there)
    (room_kept x mid c.args.id.0 kept.result kept.ensures.free kept.ensures.kept c.args.request.caps c.args.head room)
