use Rattle.std.proofs.Common.{sym}
use Rattle.core_waits.proofs.LookUps.{awaited, not_awaited}
use Rattle.core_waits.proofs.waits.Waits.is_awaited.Goals as goal

pub returns-in_default : goal.returns-in_default
returns-in_default c = rw (← c.self.view_is) (not_awaited _ _ _ (sym c.in_default.ensures))

pub returns : goal.returns
returns c = rw (← c.self.view_is) (awaited _ _ _ _ _ _ c.in-Some.entry.now _ c.self.invariant.0 (sym c.in-Some.ensures) c.is_some.ensures)
