use Rattle.std.proofs.Common.{◌<◌, arith}
use Rattle.std.specs.FinMap as map
use Rattle.rpc_machine.specs.declared.calls.OwnCall.TheVariants as own
use Rattle.core_store_tables.proofs.Asking.{sound_direct}
use Rattle.core_store_tables.proofs.questions.ask_direct.Goals as goal

pub returns-clause-sound : goal.returns-clause-sound
returns-clause-sound c =
    let below : map.len c.args.store.now.questions.entries < 4096 = grind (arith, c.if-is_full.false, c.if-is_full.ensures, c.requires.sound.within.questions) in
    sound_direct c.args.store.now c.add.new.self c.add-2.new.self c.in-Ok.q.0 c.args.call (own.Direct c.in-Ok.q) c.args.given c.requires.sound c.requires.slack c.in-Ok.ensures.free c.in-Ok.ensures.ok c.add.ensures.room below
    c.requires.new c.requires.counted c.in-Ok-add.ensures.ok c.add-2.ensures.room
