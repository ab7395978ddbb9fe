use Rattle.std.proofs.Common.{ℕ, Ok, refl, sym, ap, subst, ◌∙◌}
use Rattle.rpc_machine.specs.State.{State}
use Rattle.rpc_machine.specs.Down.{ShutsFrom}
use Rattle.link_logs.specs.declared.note.Told.{Told}
use Rattle.link_sides.specs.Sides.{IsShutBy}
use Rattle.link_sides.proofs.Answering.{shut_by}
use Rattle.link_sides.proofs.Stepping.{overflowed_at}
use Rattle.link_sides.proofs.commands.tell_shut.Goals as goal

pub returns-clause-obeys : goal.returns-clause-obeys
returns-clause-obeys c =
    overflowed_at (record { core = c.args.before.value; journal = c.args.kept.now.journal.0 }) c.vat-vat.result c.note_fall.new.kept.journal.0 _ c.len-start.result _ c.of.result c.shut-fallen.result _ _
    (record {
      value = c.of.ensures;
      vat_is = c.vat-vat.ensures ∙ (c.names_stay.ensures.commands _ _ _ _ _ c.requires.step).vat;
      entries = c.note_fall.ensures.counted;
      len = refl;
      start = c.len-start.ensures;
      queued = c.note_fall.ensures.queued;
    })
    c.overflow_is_shut.ensures c.args.kept.now.core c.recycle.new.self c.shut-fallen.new.self c.note_fall.new.kept.core c.args.asked.now.value _ (Ok c.args.granted) c.args.effects c.note_fall.ensures.told c.requires.up c.requires.step
    c.requires.still_up c.recycle.ensures
    (subst (λ (n : ℕ). ShutsFrom c.recycle.new.self n c.recycle.new.self.down c.shut-fallen.result c.shut-fallen.new.self) c.code-number.ensures c.shut-fallen.ensures)
    c.note_fall.ensures.core
    c.note_fall.ensures.journal

pub returns-clause-shut : goal.returns-clause-shut
returns-clause-shut c =
    subst (λ (t : Told). IsShutBy 33 t) (sym c.note_fall.ensures.told)
    (shut_by c.recycle.new.self c.shut-fallen.new.self 33 _ c.shut-fallen.result _ c.of.ensures (ap (λ (s : State). s.down) c.recycle.ensures ∙ c.requires.still_up)
    (subst (λ (n : ℕ). ShutsFrom c.recycle.new.self n c.recycle.new.self.down c.shut-fallen.result c.shut-fallen.new.self) c.code-number.ensures c.shut-fallen.ensures))
