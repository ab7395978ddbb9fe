use Rattle.std.proofs.Common.{arith, ap, ◌∙◌}
use Rattle.std.specs.FinMap as map
use Rattle.core_refcounts.specs.Names.{Names}
use Rattle.core_store.specs.Noted.{noted_of}
use Rattle.core_store_waits.proofs.Beside.{named_each}
use Rattle.core_store_waits.proofs.Lifting.{waits_there, sound_held}
use Rattle.core_store_waits.proofs.Unnoted.{noted_each}
use Rattle.core_store_waits.proofs.embargoes.hold_under.Goals as goal

pub returns-clause-sound : goal.returns-clause-sound
returns-clause-sound c =
    let x = c.args.store.now in
    let some = c.requires.slack in
    sound_held x c.args.id.0 c.args.call c.hold_under.new.self c.add_all.new.self c.len-count.result c.len-count.ensures c.requires.sound some
    (omega (arith, c.held.ensures.within, c.held.ensures.value, c.if-held-eq-POOL_LIMIT.false)) c.in-Ok-hold_under.ensures.ok
    (named_each x c.deref-2.result.now c.args.call.request.caps c.add_all.new.self c.requires.sound (c.deref-2.ensures.value ∙ c.deref.ensures) (omega (arith, some)) c.in-Ok.ensures.in_room)

pub returns-clause-ok : goal.returns-clause-ok
returns-clause-ok c = λ d. waits_there c.args.store.now c.args.id.0 c.args.call (map.get c.args.store.now.waits.embargoes c.args.id.0) c.hold_under.new.self d c.in-Ok-hold_under.ensures.ok

pub returns-clause-noted : goal.returns-clause-noted
returns-clause-noted c =
    let x = c.args.store.now in
    let caps = c.args.call.request.caps in
    let some = c.requires.slack in
    ap (λ (names : Names). noted_of names)
    (named_each x c.deref-2.result.now caps c.add_all.new.self c.requires.sound (c.deref-2.ensures.value ∙ c.deref.ensures) (omega (arith, some)) c.in-Ok.ensures.in_room)
    ∙ noted_each x.names caps
