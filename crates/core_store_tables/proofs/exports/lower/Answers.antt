use Rattle.std.proofs.Common.{◌≡◌, nat_le, false, arith}
use Rattle.core_store.specs.Holding.{state_of}
use Rattle.core_store_tables.proofs.Exporting.{sound_closed, sound_lowered, lower_none}
use Rattle.core_store_tables.proofs.exports.lower.Goals as goal

pub returns-then-count-n-clause-sound : goal.returns-then-count-n-clause-sound
returns-then-count-n-clause-sound c =
    sound_closed c.args.store.now c.close.new.self c.args.e.0 c.in-Some.export.now c.sub.new.self c.requires c.close.ensures.closed c.close.ensures.room c.in-Some.ensures.value c.sub.ensures

pub returns-then-n-eq0-clause-state : goal.returns-then-n-eq0-clause-state
returns-then-n-eq0-clause-state c =
    let more : nat_le c.in-Some.export.now.count c.args.n ≡ false = grind (arith, c.if-count-n.false) in
    let none : c.args.n ≡ 0 = grind (arith, c.if-n-eq0.true) in
    lower_none (state_of c.args.store.now) c.args.e.0 c.args.n c.in-Some.export.now none c.in-Some.ensures.value more

pub returns-clause-sound : goal.returns-clause-sound
returns-clause-sound c =
    let more : nat_le c.in-Some.export.now.count c.args.n ≡ false = grind (arith, c.if-count-n.false) in
    sound_lowered c.args.store.now c.release.new.self c.args.e.0 c.args.n c.in-Some.export.now c.requires c.in-Ok.ensures.ok c.release.ensures.room c.in-Some.ensures.value more
