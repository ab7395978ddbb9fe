use Rattle.std.proofs.Common.{sym, subst}
use Rattle.core_store.specs.Holding.{state_of}
use Rattle.core_step_checks.specs.Wires.{as_known}
use Rattle.core_step_checks.specs.declared.known.Known.{Known}
use Rattle.core_step_commands.proofs.Knowing.{LeadsNamed, wire_named}
use Rattle.core_step_commands.proofs.advances.advance_knowing.Goals as goal

pub advance_by-requires-clause-named : goal.advance_by-requires-clause-named
advance_by-requires-clause-named c =
    subst (λ (k : Known). LeadsNamed (as_known k)) c.in-Leads.is (subst LeadsNamed (sym c.requires.known) (wire_named (state_of c.args.step.now.store) c.args.wire.now))
