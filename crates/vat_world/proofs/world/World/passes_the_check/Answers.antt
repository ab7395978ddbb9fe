use Rattle.std.proofs.Common.{◌∷◌, subst}
use Rattle.laws_verdicts.specs.Good.{IsGood}
use Rattle.rpc_journal.specs.declared.entry.JournalEntry.TheVariants as entry
use Rattle.vat_world.specs.World.{Seen}
use Rattle.vat_world.proofs.Reaching.{good, headed}
use Rattle.vat_world.proofs.world.World.passes_the_check.Goals as goal

pub returns-clause-alone : goal.returns-clause-alone
returns-clause-alone c = subst (λ (w : Seen). IsGood w.journal) c.self.view_is (good _ c.every_verdict_is_good.ensures.alone c.self.invariant.1)

pub returns-clause-headed : goal.returns-clause-headed
returns-clause-headed c = subst (λ (w : Seen). IsGood (entry.Head ∷ w.journal)) c.self.view_is (headed _ c.every_verdict_is_good.ensures.headed c.self.invariant.1)
