use Rattle.std.proofs.Common.{◌≡◌, ◌⊎◌, Ok, Err, sym, ap, subst}
use Rattle.std.specs.Prelude.{IfOk, IfErr}
use Rattle.rpc_machine.specs.declared.command.CallCommand.{CallCommand}
use Rattle.rpc_machine.specs.declared.command.Command.TheVariants as command
use Rattle.rpc_machine.specs.declared.command.Granted.TheVariants as granted
use Rattle.vat_host.specs.Hosting.{Hosted}
use Rattle.vat_connection.specs.Calling.{Calls, Fits, IsTooLarge}
use Rattle.vat_connection.specs.Speaking.{Speaking}
use Rattle.vat_connection.proofs.Calling.{done, obeyed, refused}
use Rattle.vat_connection.proofs.speaker.Speaker.call.Goals as goal

pub returns-clause-done : goal.returns-clause-done
returns-clause-done c =
    let fits = subst (λ (call : CallCommand). Fits (command.Call call)) (sym c.in-Ok.ensures.same) c.in-Ok.ensures.fits in
    let short = obeyed c.advance.result granted.Advanced (λ r. r) c.self.inside.host c.advance.new.self (command.Advance c.in-Ok.call.reference) c.advance.ensures.done c.advance.ensures.refused in
    subst (λ (call : CallCommand). IfOk c.call.result (λ id. Calls c.args.self.now.host call (Ok id) c.call.new.self × Fits (command.Call call))) c.in-Ok.ensures.same
    (subst (λ (host : Hosted). IfOk c.call.result (λ id. Calls host c.in-Ok.call (Ok id) c.call.new.self × Fits (command.Call c.in-Ok.call))) (ap (λ (s : Speaking). s.host) c.self.view_is)
    (done (λ e. e.refusal) c.self.inside.host c.advance.new.self c.call.new.self c.in-Ok.call c.advance.result c.call.result short fits c.call.ensures.done))

pub returns-clause-refused : goal.returns-clause-refused
returns-clause-refused c =
    let short = obeyed c.advance.result granted.Advanced (λ r. r) c.self.inside.host c.advance.new.self (command.Advance c.in-Ok.call.reference) c.advance.ensures.done c.advance.ensures.refused in
    subst (λ (call : CallCommand). IfErr c.call.result (λ e. Calls c.args.self.now.host call (Err e.refusal) c.call.new.self ⊎ IsTooLarge c.args.self.now.host (command.Call call) e.refusal c.call.new.self)) c.in-Ok.ensures.same
    (subst (λ (host : Hosted). IfErr c.call.result (λ e. Calls host c.in-Ok.call (Err e.refusal) c.call.new.self ⊎ IsTooLarge host (command.Call c.in-Ok.call) e.refusal c.call.new.self)) (ap (λ (s : Speaking). s.host) c.self.view_is)
    (refused (λ e. e.refusal) c.self.inside.host c.advance.new.self c.call.new.self c.in-Ok.call c.advance.result c.call.result short c.call.ensures.refused))

pub returns-clause-handed_back : goal.returns-clause-handed_back
returns-clause-handed_back c = subst (λ (call : CallCommand). IfErr c.call.result (λ e. e.back ≡ call)) c.in-Ok.ensures.same c.call.ensures.handed_back
