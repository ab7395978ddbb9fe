use Rattle.std.proofs.Common.{◌-◌, ◌<◌, sym, arith}
use Rattle.core_store_tables.proofs.Importing.{sound_counted}
use Rattle.core_store_tables.proofs.imports.receive.Goals as goal

pub returns-clause-sound : goal.returns-clause-sound
returns-clause-sound c =
    let fits : c.in-Some-checked_add.count < 4294967296 = grind (arith, c.in-Some-checked_add.ensures, c.in-Some-checked_add.is) in
    sound_counted c.args.store.now c.args.e.0 c.in-Some-get_mut.import.now c.in-Some-checked_add.count (c.args.store.now.slack - 1) c.requires.sound (sym c.in-Some-get_mut.ensures.value) fits (omega arith)
