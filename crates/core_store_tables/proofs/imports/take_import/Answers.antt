use Rattle.std.proofs.Common.{sym}
use Rattle.core_store_tables.proofs.Importing.{sound_absent, sound_taken}
use Rattle.core_store_tables.proofs.imports.take_import.Goals as goal

pub returns-in_err-import-clause-sound : goal.returns-in_err-import-clause-sound
returns-in_err-import-clause-sound c =
    sound_absent c.args.store.now c.close.new.self c.args.e.0 c.requires c.close.ensures.closed c.close.ensures.room (sym c.in_err-import.ensures.value)

pub returns-clause-sound : goal.returns-clause-sound
returns-clause-sound c =
    sound_taken c.args.store.now c.close.new.self c.args.e.0 c.in_ok-import.import c.unname_resolution.new.names c.requires c.close.ensures.closed c.close.ensures.room (sym c.in_ok-import.ensures.value) c.unname_resolution.ensures
