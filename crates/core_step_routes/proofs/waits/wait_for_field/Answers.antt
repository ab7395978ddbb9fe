use Rattle.std.proofs.Common.{◌+◌, length}
use Rattle.std.proofs.lemmas.Result.{on_ok_weaker}
use Rattle.core_step.specs.InProgress.{progress_of}
use Rattle.core_step_routes.proofs.Behind.{same_for_field, ready_behind}
use Rattle.core_step_routes.proofs.waits.wait_for_field.Goals as goal

pub returns-clause-ok : goal.returns-clause-ok
returns-clause-ok c = on_ok_weaker c.hold_for_field.result (λ h. h (progress_of c.args.step.now)) c.hold_for_field.ensures.ok

pub returns-clause-ready : goal.returns-clause-ready
returns-clause-ready c =
    ready_behind c.hold_for_field.result c.args.step.now c.hold_for_field.new.store (length c.args.call.request.caps + 1) c.requires.ready c.hold_for_field.ensures.sound
    (on_ok_weaker c.hold_for_field.result (λ h. same_for_field (progress_of c.args.step.now) c.args.call c.args.o c.args.path _ _ (h (progress_of c.args.step.now))) c.hold_for_field.ensures.ok) c.hold_for_field.ensures.left c.hold_for_field.ensures.same
