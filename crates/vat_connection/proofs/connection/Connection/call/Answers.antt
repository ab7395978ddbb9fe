use Rattle.std.proofs.Common.{List, [], ◌∷◌, ◌++◌, Ok, Err, ◌⊎◌, inl, refl, ap, subst, ◌∙◌}
use Rattle.rpc_msg.specs.declared.ids.CallId.{CallId}
use Rattle.rpc_machine.specs.declared.command.Command.TheVariants as command
use Rattle.rpc_machine.specs.declared.command.Granted.TheVariants as granted
use Rattle.rpc_machine.specs.declared.command.Refusal.TheVariants as refusal
use Rattle.vat_connection.specs.Calling.{Calls, Fits, IsTooLarge}
use Rattle.vat_connection.specs.Connecting.{Connected}
use Rattle.vat_connection.proofs.Calling.{lacks_place, leaves}
use Rattle.vat_connection.proofs.connection.Connection.call.Goals as goal

pub returns-in_default-clause-refused : goal.returns-in_default-clause-refused
returns-in_default-clause-refused c = subst (λ (o : Connected). Calls o.speaker.host c.args.call (Err refusal.Memory) c.self.inside.speaker.host ⊎ IsTooLarge o.speaker.host (command.Call c.args.call) refusal.Memory c.self.inside.speaker.host) c.self.view_is (inl (lacks_place c.self.inside.speaker.host c.args.call))

pub returns-in_default-clause-rest : goal.returns-in_default-clause-rest
returns-in_default-clause-rest c =
    leaves c.self.inside.speaker c.self.inside.speaker c.self.inside.inflow c.self.inside.limits c.self.inside.open_calls.0 c.args.self.now (command.Call c.args.call) c.self.view_is refl (Err refusal.Memory) c.reserve.new.self.0 c.reserve.ensures.same

pub returns-in-Ok-call-clause-done : goal.returns-in-Ok-call-clause-done
returns-in-Ok-call-clause-done c = subst (λ (o : Connected). Calls o.speaker.host c.args.call (Ok c.in-Ok-call.id) c.call.new.self.host × Fits (command.Call c.args.call)) c.self.view_is c.in-Ok-call.ensures.done

pub returns-in-Ok-call-clause-rest : goal.returns-in-Ok-call-clause-rest
returns-in-Ok-call-clause-rest c =
    leaves c.self.inside.speaker c.call.new.self c.self.inside.inflow c.self.inside.limits c.self.inside.open_calls.0 c.args.self.now (command.Call c.args.call) c.self.view_is c.call.ensures.rest (Ok (granted.Call c.in-Ok-call.id)) c.add.new.self.0
    (c.add.ensures ∙ ap (λ (calls : List CallId). calls ++ c.in-Ok-call.id ∷ []) c.reserve.ensures.same)

pub returns-in-Err-clause-refused : goal.returns-in-Err-clause-refused
returns-in-Err-clause-refused c = subst (λ (o : Connected). Calls o.speaker.host c.args.call (Err c.in-Err.refused.refusal) c.call.new.self.host ⊎ IsTooLarge o.speaker.host (command.Call c.args.call) c.in-Err.refused.refusal c.call.new.self.host) c.self.view_is c.in-Err.ensures.refused

pub returns-in-Err-clause-rest : goal.returns-in-Err-clause-rest
returns-in-Err-clause-rest c =
    leaves c.self.inside.speaker c.call.new.self c.self.inside.inflow c.self.inside.limits c.self.inside.open_calls.0 c.args.self.now (command.Call c.args.call) c.self.view_is c.call.ensures.rest (Err c.in-Err.refused.refusal) c.reserve.new.self.0 c.reserve.ensures.same
