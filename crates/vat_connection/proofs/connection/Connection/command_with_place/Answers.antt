use Rattle.std.proofs.Common.{List, Option, Ok, Err, ◌⊎◌, inl, inr, refl, ap, subst, ◌∙◌}
use Rattle.rpc_msg.specs.declared.ids.CallId.{CallId}
use Rattle.rpc_machine.specs.declared.command.Refusal.TheVariants as refusal
use Rattle.vat_host.specs.Hosting.{Does, Refuses}
use Rattle.vat_connection.specs.Calling.{FindsNoRoom, FindsRoom}
use Rattle.vat_connection.specs.Connecting.{Connected}
use Rattle.vat_connection.specs.OwnCalls.{followed}
use Rattle.vat_connection.proofs.Calling.{leaves}
use Rattle.vat_connection.proofs.connection.Connection.command_with_place.Goals as goal

pub returns-in_default-clause-refused : goal.returns-in_default-clause-refused
returns-in_default-clause-refused c = subst (λ (o : Connected). Refuses o.speaker.host c.args.command refusal.Memory c.self.inside.speaker.host ⊎ FindsNoRoom o.speaker.host c.args.command refusal.Memory c.self.inside.speaker.host) c.self.view_is (inl (inr (refl, c.requires), refl))

pub returns-in_default-clause-rest : goal.returns-in_default-clause-rest
returns-in_default-clause-rest c =
    leaves c.self.inside.speaker c.self.inside.speaker c.self.inside.inflow c.self.inside.limits c.self.inside.open_calls.0 c.args.self.now c.args.command c.self.view_is refl (Err refusal.Memory) c.reserve.new.self.0 c.reserve.ensures.same

pub returns-in-Ok-command-clause-done : goal.returns-in-Ok-command-clause-done
returns-in-Ok-command-clause-done c = subst (λ (o : Connected). Does o.speaker.host c.args.command c.in-Ok-command.granted c.command.new.self.host × FindsRoom o.speaker.host c.args.command) c.self.view_is c.in-Ok-command.ensures.done

pub returns-in-Ok-command-clause-rest : goal.returns-in-Ok-command-clause-rest
returns-in-Ok-command-clause-rest c =
    leaves c.self.inside.speaker c.command.new.self c.self.inside.inflow c.self.inside.limits c.self.inside.open_calls.0 c.args.self.now c.args.command c.self.view_is c.command.ensures.rest (Ok c.in-Ok-command.granted) c.follow.new.self.0
    (c.follow.ensures
    ∙ ap (λ (calls : List CallId). followed calls c.finished_by-finished.result c.in-Ok-command.granted) c.reserve.ensures.same
    ∙ ap (λ (finished : Option CallId). followed c.self.inside.open_calls.0 finished c.in-Ok-command.granted) c.finished_by-finished.ensures)

pub returns-in-Err-clause-refused : goal.returns-in-Err-clause-refused
returns-in-Err-clause-refused c = subst (λ (o : Connected). Refuses o.speaker.host c.args.command c.in-Err.refused.refusal c.command.new.self.host ⊎ FindsNoRoom o.speaker.host c.args.command c.in-Err.refused.refusal c.command.new.self.host) c.self.view_is c.in-Err.ensures.refused

pub returns-in-Err-clause-rest : goal.returns-in-Err-clause-rest
returns-in-Err-clause-rest c =
    leaves c.self.inside.speaker c.command.new.self c.self.inside.inflow c.self.inside.limits c.self.inside.open_calls.0 c.args.self.now c.args.command c.self.view_is c.command.ensures.rest (Err c.in-Err.refused.refusal) c.reserve.new.self.0 c.reserve.ensures.same
