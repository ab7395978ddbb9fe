use Rattle.std.proofs.Common.{◌++◌, ◌∷◌, [], ◌≤◌, ◌∙◌, ap, List, arith}
use Rattle.rpc_journal.specs.declared.entry.JournalEntry.{JournalEntry}
use Rattle.rpc_journal.specs.declared.entry.JournalEntry.TheVariants as entry
use Rattle.vat_world.proofs.Standing.{noted}
use Rattle.vat_world.proofs.world.World.note_tables.Goals as goal

pub invariant_of-self-2 : goal.invariant_of-self-2
invariant_of-self-2 c =
    let made = c.in_ok-prepare.ensures.ok in
    let left = c.push.ensures.room in
    let room : 6 ≤ c.push.new.self.1 = omega (arith, made, left) in
    noted c.self.inside.a c.self.inside.b c.self.inside.journal c.push.new.self c.in_ok-a.a c.in_ok-b.b c.self.invariant.0 c.self.invariant.1
    c.in_ok-a.ensures c.in_ok-b.ensures
    (c.push.ensures.entries ∙ ap (λ (l : List JournalEntry). l ++ entry.Tables c.in_ok-a.a c.in_ok-b.b ∷ []) c.in_ok-prepare.ensures.same)
    room
