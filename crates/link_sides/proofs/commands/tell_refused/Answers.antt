use Rattle.std.proofs.Common.{Err, append-nil, refl, sym, ◌∙◌}
use Rattle.rpc_msg.specs.declared.ids.Vat.{Vat}
use Rattle.rpc_machine.specs.Journal.{refused_entries}
use Rattle.rpc_machine.specs.Progress.{quiet}
use Rattle.link_sides.specs.Rooms.{held_of}
use Rattle.link_sides.proofs.Queueing.{queues_none}
use Rattle.link_sides.proofs.Stepping.{obeyed_at}
use Rattle.link_sides.proofs.commands.tell_refused.Goals as goal

pub returns-clause-obeys : goal.returns-clause-obeys
returns-clause-obeys c =
    obeyed_at (held_of c.args.kept.now) c.vat-vat.result c.write_refused.new.journal.0 c.len.result c.len-start.result _ c.of.result quiet _ _
    (record {
      value = c.of.ensures ∙ c.no_effects-effects.ensures;
      vat_is = c.vat-vat.ensures;
      entries = refl;
      len = c.len.ensures;
      start = c.len-start.ensures;
      queued = queues_none _ _ _ refl refl;
    })
    c.args.kept.now.core c.recycle.new.self c.args.asked.value _ c.args.asked c.of-said.result (Err c.args.refusal) (λ (v : Vat). refused_entries v c.args.refusal) refl refl c.of-said.ensures c.requires.up c.requires.step
    c.recycle.ensures (c.write_refused.ensures.entries ∙ sym (append-nil _)) (λ h counts. refl) (λ _. c.requires.free) refl
