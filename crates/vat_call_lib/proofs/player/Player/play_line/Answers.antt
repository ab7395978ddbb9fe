use Rattle.std.proofs.Common.{rules, ◌≡◌, Err, refl}
use Rattle.script_language.specs.Acting.{act_for}
use Rattle.vat_call_lib.proofs.player.Player.play_line.Goals as goal

pub returns-in-Err-Name : goal.returns-in-Err-Name
returns-in-Err-Name g c =
    let unbound : act_for c.args.self.now.names c.args.line.now ≡ Err c.in-Err-Name.fault = search rules in (refl, (c.args.self.now.names, unbound))
