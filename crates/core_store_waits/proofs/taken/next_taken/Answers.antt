use Rattle.std.proofs.Common.{ap, ◌∙◌}
use Rattle.core_refcounts.specs.Names.{unnamed_all}
use Rattle.core_store_waits.proofs.Lifting.{sound_next}
use Rattle.core_store_waits.proofs.taken.next_taken.Goals as goal

pub returns-clause-sound : goal.returns-clause-sound
returns-clause-sound c =
    let x = c.args.store.now in
    sound_next x c.in_ok-held.held c.next_taken.new.self c.sub_all.new.self c.requires c.in_ok-held.ensures (c.sub_all.ensures ∙ ap (unnamed_all x.names) (c.deref-2.ensures.value ∙ c.deref.ensures))
