use Rattle.std.proofs.Common.{ℕ, refl, subst}
use Rattle.link_sides.specs.Sides.{IsShutBy}
use Rattle.link_sides.proofs.Answering.{refused_when_shut}
use Rattle.link_sides.proofs.commands.without_room.Goals as goal

pub returns-clause-answers : goal.returns-clause-answers
returns-clause-answers c = refused_when_shut c.args.command _ _ (subst (λ (n : ℕ). IsShutBy n c.shut-note.result.told) c.code.ensures c.shut-note.ensures.by_number) refl c.requires.other
