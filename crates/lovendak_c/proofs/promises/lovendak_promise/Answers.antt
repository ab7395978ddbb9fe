use Rattle.std.proofs.Common.{ℕ, Some, Result, Ok, refl, sym, subst, ap, ◌∙◌}
use Rattle.rpc_machine.specs.declared.command.Command.TheVariants as command
use Rattle.lovendak_c_desk.specs.Commands.{IsAsked, a_promise}
use Rattle.lovendak_c_desk.specs.declared.not_done.NotDone.{NotDone}
use Rattle.lovendak_c.proofs.Full.{full_gives}
use Rattle.lovendak_c.proofs.promises.lovendak_promise.Goals as goal

pub returns-in-Ok : goal.returns-in-Ok
returns-in-Ok c =
    full_gives {A = ℕ × ℕ} c.args.vat.now.raw.desk c.of.result.raw.desk c.deref_mut.result.now c.promise-answer.new.self 0 (c.args.promise.now, c.args.reference.now) (c.in-Ok.made, c.in-Ok.leads)
    (λ old answer new. IsAsked old command.Promise a_promise answer new) (Ok (c.in-Ok.made, c.in-Ok.leads)) (c.in-Some.ensures.taken ∙ ap Some (sym c.deref_mut.ensures.value)) c.of.ensures
    (subst (λ (r : Result (ℕ × ℕ) NotDone). IsAsked c.deref_mut.result.now command.Promise a_promise r c.promise-answer.new.self) c.in-Ok.is c.promise-answer.ensures) (refl, refl)
