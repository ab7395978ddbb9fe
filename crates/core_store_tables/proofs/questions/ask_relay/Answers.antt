use Rattle.std.proofs.Common.{◌<◌, arith}
use Rattle.std.specs.FinMap as map
use Rattle.core_store_tables.proofs.Asking.{sound_relay}
use Rattle.core_store_tables.proofs.questions.ask_relay.Goals as goal

pub returns-clause-sound : goal.returns-clause-sound
returns-clause-sound c =
    let below : map.len c.args.store.now.questions.entries < 4096 = grind (arith, c.if-is_full.false, c.if-is_full.ensures, c.requires.sound.within.questions) in
    sound_relay c.args.store.now c.add.new.self c.in-Ok.q.0 c.args.outcome c.args.given c.requires.sound c.requires.slack c.in-Ok.ensures.free c.in-Ok.ensures.ok c.add.ensures.room below
