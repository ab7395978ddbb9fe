use Rattle.std.proofs.Common.{ap, ◌∙◌}
use Rattle.rpc_machine.specs.Places.{named_by_resolution}
use Rattle.core_refcounts.specs.Names.{unnamed_all}
use Rattle.core_store_tables.proofs.Importing.{sound_resolved}
use Rattle.core_store_tables.proofs.imports.set_resolution.Goals as goal

pub returns-clause-sound : goal.returns-clause-sound
returns-clause-sound c =
    sound_resolved c.args.store.now c.args.e.0 c.in-Some-get_mut.import.now c.args.said c.replace-before.new.dest c.name_resolution.new.names c.unname_resolution.new.names c.requires.sound c.requires.slack
    c.in-Some-get_mut.ensures.value c.replace-before.ensures.after c.name_resolution.ensures
    (c.unname_resolution.ensures ∙ ap (λ r. unnamed_all c.name_resolution.new.names (named_by_resolution r)) c.replace-before.ensures.value)
