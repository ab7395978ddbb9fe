use Rattle.std.proofs.Common.{List, [], ◌∷◌, ◌++◌, Ok, Err, inr, refl, ap, ◌∙◌}
use Rattle.rpc_msg.specs.declared.ids.CallId.{CallId}
use Rattle.rpc_machine.specs.declared.command.Command.TheVariants as command
use Rattle.rpc_machine.specs.declared.command.Granted.TheVariants as granted
use Rattle.rpc_machine.specs.declared.command.Refusal.TheVariants as refusal
use Rattle.vat_connection.specs.declared.connection.Connection.TheInside.{Inside}
use Rattle.vat_connection.proofs.Calling.{asks_as, connection}
use Rattle.vat_connection.proofs.connection.Connection.bootstrap.Goals as goal

pub returns-in_default : goal.returns-in_default
returns-in_default c =
    asks_as c.self-inside.inside.0.0.host c.self-inside.inside.0.0.host c.self-inside.inside.0.0.out c.self-inside.inside.0.0.adapter c.self-inside.inside.0.0.heard c.self-inside.inside.0.1.0 c.self-inside.inside.0.1.1.0 c.self-inside.inside.0.1.1.1.0.0 c.args.self.now command.Bootstrap (ap (λ (i : Inside). connection i.speaker i.inflow i.limits i.open_calls.0) c.self-inside.view_is ∙ c.self.view_is)
    (Err refusal.Memory) c.reserve.new.self.0 c.reserve.ensures.same (inr (refl, refl), refl)

pub returns-in-Ok-bootstrap : goal.returns-in-Ok-bootstrap
returns-in-Ok-bootstrap c =
    asks_as c.self-inside.inside.0.0.host c.bootstrap.new.self c.self-inside.inside.0.0.out c.self-inside.inside.0.0.adapter c.self-inside.inside.0.0.heard c.self-inside.inside.0.1.0 c.self-inside.inside.0.1.1.0 c.self-inside.inside.0.1.1.1.0.0 c.args.self.now command.Bootstrap (ap (λ (i : Inside). connection i.speaker i.inflow i.limits i.open_calls.0) c.self-inside.view_is ∙ c.self.view_is)
    (Ok (granted.Call c.in-Ok-bootstrap.id)) c.add.new.self.0 (c.add.ensures ∙ ap (λ (calls : List CallId). calls ++ c.in-Ok-bootstrap.id ∷ []) c.reserve.ensures.same) c.in-Ok-bootstrap.ensures.done

pub returns-in-Err : goal.returns-in-Err
returns-in-Err c =
    asks_as c.self-inside.inside.0.0.host c.bootstrap.new.self c.self-inside.inside.0.0.out c.self-inside.inside.0.0.adapter c.self-inside.inside.0.0.heard c.self-inside.inside.0.1.0 c.self-inside.inside.0.1.1.0 c.self-inside.inside.0.1.1.1.0.0 c.args.self.now command.Bootstrap (ap (λ (i : Inside). connection i.speaker i.inflow i.limits i.open_calls.0) c.self-inside.view_is ∙ c.self.view_is)
    (Err c.in-Err.refusal) c.reserve.new.self.0 c.reserve.ensures.same c.in-Err.ensures.refused
