use Rattle.std.proofs.Common.{◌-◌, ◌<◌, Option, sym, subst, arith}
use Rattle.rpc_machine.specs.declared.entries.Import.{Import}
use Rattle.rpc_machine.specs.Limits.{import_count, count_limit}
use Rattle.core_store_tables.proofs.Importing.{sound_counted}
use Rattle.core_store_tables.proofs.imports.give_one.Goals as goal

pub returns-clause-sound : goal.returns-clause-sound
returns-clause-sound c =
    let x = c.in-Some-get_mut.import.now in
    let fits : x.count < count_limit = subst (λ (o : Option Import). import_count o < count_limit) (sym c.in-Some-get_mut.ensures.value) (c.requires.within.import_counts c.args.e.0) in
    sound_counted c.args.store.now c.args.e.0 x (x.count - 1) c.args.store.now.slack c.requires (sym c.in-Some-get_mut.ensures.value) (omega (arith, fits)) (omega arith)
