use Rattle.std.proofs.Common.{List, ◌++◌, Ok, refl, ap, ◌∙◌}
use Rattle.rpc_msg.specs.declared.ids.Vat.{Vat}
use Rattle.rpc_journal.specs.declared.entry.JournalEntry.{JournalEntry}
use Rattle.rpc_machine.specs.Journal.{effect_entries}
use Rattle.core_telling.specs.Notes.{note_entries}
use Rattle.link_sides.proofs.Stepping.{own_written, obeyed_at}
use Rattle.link_sides.proofs.Answering.{done_so}
use Rattle.link_sides.proofs.commands.tell_all.Goals as goal

pub returns-clause-obeys : goal.returns-clause-obeys
returns-clause-obeys c =
    obeyed_at (record { core = c.args.before.value; journal = c.args.kept.now.journal.0 }) c.vat-vat.result c.tell_whole.new.kept.journal.0 c.len.result c.len-start.result _ c.of.result c.args.effects _ _
    (record {
      value = c.of.ensures;
      vat_is = c.vat-vat.ensures ∙ (c.names_stay.ensures.commands _ _ _ _ _ c.requires.step).vat;
      entries = refl;
      len = c.len.ensures;
      start = c.len-start.ensures;
      queued = c.tell_whole.ensures.queued;
    })
    c.args.kept.now.core c.tell_whole.new.kept.core c.args.asked.value _ c.args.asked c.of-said.result (Ok c.args.granted) (λ (v : Vat). note_entries v c.args.own c.args.granted) refl refl c.of-said.ensures c.requires.up c.requires.step
    c.tell_whole.ensures.core
    (c.tell_whole.ensures.journal ∙ ap (λ (l : List JournalEntry). l ++ effect_entries c.vat-vat.result c.args.effects) c.write_note.ensures.entries)
    (own_written c.args.before.value c.args.kept.now.core c.args.asked.value c.args.granted c.args.effects c.args.own c.requires.own c.requires.step)
    (λ _. c.tell_whole.ensures.free) refl

pub returns-clause-answers : goal.returns-clause-answers
returns-clause-answers c = done_so c.args.asked.value c.args.granted c.args.effects _ c.args.asked c.of-said.result c.of.result c.of-said.ensures c.of.ensures c.requires.says c.tell_whole.ensures.given
