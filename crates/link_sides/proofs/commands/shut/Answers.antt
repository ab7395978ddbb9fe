use Rattle.std.proofs.Common.{refl, sym, subst}
use Rattle.link_logs.specs.declared.note.Told.{Told}
use Rattle.link_sides.specs.Rooms.{held_of}
use Rattle.link_sides.specs.Sides.{IsShutBy}
use Rattle.link_sides.proofs.Answering.{shut_by}
use Rattle.link_sides.proofs.Stepping.{shut_at}
use Rattle.link_sides.proofs.commands.shut.Goals as goal

pub returns-clause-shuts : goal.returns-clause-shuts
returns-clause-shuts c =
    shut_at (held_of c.args.kept.now) c.vat-vat.result c.note_fall.new.kept.journal.0 _ c.len-start.result _ c.of.result c.shut-effects.result _ _
    (record { value = c.of.ensures; vat_is = c.vat-vat.ensures; entries = c.note_fall.ensures.counted; len = refl; start = c.len-start.ensures; queued = c.note_fall.ensures.queued })
    c.shut-effects.new.self c.note_fall.new.kept.core c.args.number c.note_fall.ensures.told c.requires.up c.shut-effects.ensures c.note_fall.ensures.core c.note_fall.ensures.journal

pub returns-clause-by_number : goal.returns-clause-by_number
returns-clause-by_number c =
    subst (λ (t : Told). IsShutBy c.args.number t) (sym c.note_fall.ensures.told)
    (shut_by (held_of c.args.kept.now).core c.shut-effects.new.self c.args.number _ c.shut-effects.result _ c.of.ensures c.requires.up c.shut-effects.ensures)
