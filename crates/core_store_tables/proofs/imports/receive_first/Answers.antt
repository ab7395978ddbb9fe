use Rattle.std.proofs.Common.{◌<◌, arith}
use Rattle.std.specs.FinMap as map
use Rattle.core_store_tables.proofs.Importing.{sound_first}
use Rattle.core_store_tables.proofs.imports.receive_first.Goals as goal

pub returns-clause-sound : goal.returns-clause-sound
returns-clause-sound c =
    let below : map.len c.args.store.now.imports.entries < 4096 = grind (arith, c.if-len-eq-TABLE_LIMIT.false, c.len.ensures.value, c.requires.sound.within.imports) in
    sound_first c.args.store.now c.add.new.self c.args.e.0 c.args.kind c.note_import.new.names c.requires.sound c.requires.slack c.requires.new c.in-Ok.ensures.ok c.add.ensures.room below c.note_import.ensures
