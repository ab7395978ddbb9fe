use Rattle.std.proofs.Common.{List, length, ap, ◌∙◌, arith}
use Rattle.rpc_machine.specs.declared.node.Node.{Node}
use Rattle.rpc_machine.specs.Progress.{caps_of}
use Rattle.core_refcounts.specs.Names.{Names}
use Rattle.core_store_waits.specs.Noting.{noted_unnamed}
use Rattle.core_store_waits.proofs.Beside.{named_each, can_note}
use Rattle.core_store_waits.proofs.Knowing.{is_unknown, sound_known}
use Rattle.core_store_waits.proofs.outcomes.know_value.Goals as goal

pub note_unnamed-requires : goal.note_unnamed-requires
note_unnamed-requires c =
    let x = c.args.store.now in
    let some = c.requires.slack in
    can_note x (caps_of c.args.value) c.add_all.new.self c.requires.sound (omega (arith, some))
    (named_each x c.caps_of.result.now (caps_of c.args.value) c.add_all.new.self c.requires.sound c.caps_of.ensures (omega (arith, some)) c.in-Ok.ensures.in_room)

pub returns-clause-sound : goal.returns-clause-sound
returns-clause-sound c =
    let x = c.args.store.now in
    let some = c.requires.slack in
    sound_known x c.args.key c.args.value c.know.new.self c.note_unnamed.new.names (length c.caps_of-count.result.now) (ap (λ (ns : List Node). length ns) c.caps_of-count.ensures)
    (is_unknown _ c.in-Some._caller c.in-Some.ensures c.in-None.ensures) c.requires.sound some c.in-Ok-know.ensures.ok
    (c.note_unnamed.ensures ∙ ap (λ (d : Names). noted_unnamed d c.args.key)
    (named_each x c.caps_of.result.now (caps_of c.args.value) c.add_all.new.self c.requires.sound c.caps_of.ensures (omega (arith, some)) c.in-Ok.ensures.in_room))
