use Rattle.std.proofs.Common.{◌<◌, ◌+◌, ap, arith, ◌∙◌}
use Rattle.std.specs.FinMap as map
use Rattle.core_store_tables.proofs.Answering.{sound_opened}
use Rattle.core_store_tables.proofs.answers.open_answer.Goals as goal

pub returns-clause-sound : goal.returns-clause-sound
returns-clause-sound c =
    let below : map.len c.args.store.now.answers.entries < 4096 = grind (arith, c.if-len-eq-TABLE_LIMIT.false, c.len.ensures.value, c.requires.sound.within.answers) in
    sound_opened c.args.store.now c.add.new.self c.args.q.0 c.args.outcome c.args.taken c.deref-2.result.now c.name_imports.new.names (c.len-spent.result + 1) c.requires.sound
    (ap (λ k. k + 1) c.len-spent.ensures) (let a = c.len-spent.ensures in let b = c.requires.slack in omega (arith, a, b))
    c.requires.new c.in-Ok.ensures.ok c.add.ensures.room below (c.deref-2.ensures.value ∙ c.deref.ensures) c.name_imports.ensures
