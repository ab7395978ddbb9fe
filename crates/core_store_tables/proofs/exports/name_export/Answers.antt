use Rattle.std.proofs.Common.{◌≤◌, nat_lt, ap, ◌∙◌, arith}
use Rattle.std.specs.FinMap as map
use Rattle.core_store_tables.proofs.Exporting.{sound_named}
use Rattle.core_store_tables.proofs.exports.name_export.Goals as goal

pub returns-clause-sound : goal.returns-clause-sound
returns-clause-sound c =
    let fits : map.len c.name.new.self.entries ≤ 4096 = let a = c.len.ensures.value in let b = c.len.ensures.within in omega (arith, a, b) in
    sound_named c.args.store.now c.name.new.self c.args.node c.in-Ok.id.0 (nat_lt c.len-before.result c.len.result) c.name_if.new.names c.requires.sound c.requires.slack c.in-Ok.ensures.ok c.name.ensures.room
    fits (ap (λ n. nat_lt n c.len.result) c.len-before.ensures.value ∙ ap (nat_lt (map.len c.args.store.now.exports.entries)) c.len.ensures.value) c.name_if.ensures
