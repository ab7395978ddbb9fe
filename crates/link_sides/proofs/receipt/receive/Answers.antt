use Rattle.std.proofs.Common.{ℕ, List, ◌++◌, refl, sym, ap, subst, ◌∙◌}
use Rattle.rpc_machine.specs.Down.{ShutsFrom}
use Rattle.rpc_journal.specs.declared.entry.JournalEntry.{JournalEntry}
use Rattle.rpc_machine.specs.Journal.{effect_entries}
use Rattle.core_telling.proofs.Falling.{receives_fall}
use Rattle.link_sides.specs.Rooms.{held_of}
use Rattle.link_sides.proofs.Stepping.{is_fall, queues_from, received_falling, received_whole, received_less}
use Rattle.link_sides.proofs.receipt.receive.Goals as goal

pub note_fall-note-requires-clause-fall : goal.note_fall-note-requires-clause-fall
note_fall-note-requires-clause-fall c = is_fall _ c.in-Some.number c.receive-effects.result (sym c.in-Some.ensures) (receives_fall _ _ _ _ c.requires.up c.receive-effects.ensures.steps)

pub returns-in-Some-clause-receives : goal.returns-in-Some-clause-receives
returns-in-Some-clause-receives c =
    received_falling (held_of c.args.kept.now) c.vat-vat.result c.note_fall-note.new.kept.journal.0 _ c.len-start.result _ c.of.result c.receive-effects.result _ _
    (record { value = c.of.ensures; vat_is = c.vat-vat.ensures; entries = c.note_fall-note.ensures.counted; len = refl; start = c.len-start.ensures; queued = c.note_fall-note.ensures.queued })
    c.receive-effects.new.self c.note_fall-note.new.kept.core c.args.message c.args.room c.in-Some.number c.of-heard.result c.note_fall-note.ensures.told c.of-heard.ensures c.requires.up c.receive-effects.ensures.steps
    c.note_fall-note.ensures.core (sym c.in-Some.ensures)
    (c.note_fall-note.ensures.journal ∙ ap (λ (l : List JournalEntry). l ++ effect_entries c.vat-vat.result c.receive-effects.result) c.push.ensures.entries)

pub returns-in-Ok-clause-receives : goal.returns-in-Ok-clause-receives
returns-in-Ok-clause-receives c =
    received_whole (held_of c.args.kept.now) c.vat-vat.result c.tell_whole.new.kept.journal.0 c.len.result c.len-start.result _ c.of-in-Ok.result c.receive-effects.result _ _
    (record {
      value = c.of-in-Ok.ensures;
      vat_is = c.vat-vat.ensures;
      entries = refl;
      len = c.len.ensures;
      start = c.len-start.ensures;
      queued = queues_from _ _ _ _ c.make_room.ensures.frames c.make_room.ensures.made c.make_room.ensures.heard c.tell_whole.ensures.queued;
    })
    c.receive-effects.new.self c.tell_whole.new.kept.core c.args.message c.args.room c.of-heard.result refl c.of-heard.ensures c.requires.up c.receive-effects.ensures.steps
    (c.tell_whole.ensures.core ∙ c.make_room.ensures.core) c.in-Ok.ensures.had_room c.tell_whole.ensures.free
    (c.tell_whole.ensures.journal ∙ ap (λ (l : List JournalEntry). l ++ effect_entries c.vat-vat.result c.receive-effects.result) (c.make_room.ensures.journal ∙ c.push.ensures.entries))

pub returns-clause-receives : goal.returns-clause-receives
returns-clause-receives c =
    received_less (held_of c.args.kept.now) c.vat-vat.result c.note_fall-note-2.new.kept.journal.0 _ c.len-start.result _ c.of-2.result c.shut-fallen.result _ _
    (record {
      value = c.of-2.ensures;
      vat_is = c.vat-vat.ensures;
      entries = c.note_fall-note-2.ensures.counted;
      len = refl;
      start = c.len-start.ensures;
      queued = queues_from _ _ _ _ c.make_room.ensures.frames c.make_room.ensures.made c.make_room.ensures.heard c.note_fall-note-2.ensures.queued;
    })
    c.receive-effects.new.self c.recycle.new.self c.shut-fallen.new.self c.note_fall-note-2.new.kept.core c.args.message c.args.room c.receive-effects.result c.of-heard.result c.note_fall-note-2.ensures.told c.of-heard.ensures c.requires.up
    c.receive-effects.ensures.steps (sym c.in_default.ensures) (c.recycle.ensures ∙ c.make_room.ensures.core)
    (subst (λ (n : ℕ). ShutsFrom c.recycle.new.self n c.recycle.new.self.down c.shut-fallen.result c.shut-fallen.new.self) c.code-number.ensures c.shut-fallen.ensures)
    c.note_fall-note-2.ensures.core
    (c.note_fall-note-2.ensures.journal ∙ ap (λ (l : List JournalEntry). l ++ effect_entries c.vat-vat.result c.shut-fallen.result) (c.make_room.ensures.journal ∙ c.push.ensures.entries))
