use Rattle.std.proofs.Common.{rules, ◌≡◌, Err, refl}
use Rattle.script_language.specs.Acting.{act_for}
use Rattle.link_workers.proofs.worker.Worker.play_line.Goals as goal

pub returns-in-Err-Name-clause-ending : goal.returns-in-Err-Name-clause-ending
returns-in-Err-Name-clause-ending g c =
    let unbound : act_for c.args.self.now.names c.args.line.now ≡ Err c.in-Err-Name.fault = search rules in (refl, unbound, refl)
