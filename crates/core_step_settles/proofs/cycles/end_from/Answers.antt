use Rattle.std.proofs.Common.{suc, Option, List, sym, ap, subst, ◌∙◌}
use Rattle.rpc_msg.specs.Op.{Op}
use Rattle.rpc_machine.specs.Payloads.{cap_at}
use Rattle.core_store.specs.Holding.{state_of}
use Rattle.core_step_settles.specs.Ends.{WalksTo}
use Rattle.core_step_settles.proofs.Walks.{ends_off, ends_along, ends_at_null, ends_at_other}
use Rattle.core_step_settles.proofs.cycles.end_from.Goals as goal

pub returns-in_default-clause-end : goal.returns-in_default-clause-end
returns-in_default-clause-end c = λ rest knows.
    ends_off (state_of c.args.store.now) c.args.key c.args.node c.args.payload.now (suc c.args.at) rest
    (subst (λ (x : Option (List Op)). WalksTo (state_of c.args.store.now) c.args.key c.args.node x) c.in_default.is c.in_ok-path.ensures)

pub returns-in-Cap-clause-end : goal.returns-in-Cap-clause-end
returns-in-Cap-clause-end c = λ rest knows.
    ends_along (state_of c.args.store.now) c.args.key c.args.node c.args.payload.now (suc c.args.at) rest c.in-Some.path c.end_of.result
    (subst (λ (x : Option (List Op)). WalksTo (state_of c.args.store.now) c.args.key c.args.node x) c.in-Some.is c.in_ok-path.ensures)
    (c.end_of.ensures.end (state_of c.args.store.now) c.args.key c.args.payload.now rest c.in-Some.path knows
    (ap (cap_at c.args.payload.now) (sym c.as_slice.ensures.value) ∙ sym c.cap_at.ensures ∙ c.in-Cap.is))

pub returns-in-Null-clause-end : goal.returns-in-Null-clause-end
returns-in-Null-clause-end c = λ rest knows.
    ends_at_null (state_of c.args.store.now) c.args.key c.args.node c.args.payload.now (suc c.args.at) rest c.in-Some.path
    (subst (λ (x : Option (List Op)). WalksTo (state_of c.args.store.now) c.args.key c.args.node x) c.in-Some.is c.in_ok-path.ensures)
    (ap (cap_at c.args.payload.now) (sym c.as_slice.ensures.value) ∙ sym c.cap_at.ensures ∙ c.in-Null.is)

pub returns-in-NotCap-clause-end : goal.returns-in-NotCap-clause-end
returns-in-NotCap-clause-end c = λ rest knows.
    ends_at_other (state_of c.args.store.now) c.args.key c.args.node c.args.payload.now (suc c.args.at) rest c.in-Some.path
    (subst (λ (x : Option (List Op)). WalksTo (state_of c.args.store.now) c.args.key c.args.node x) c.in-Some.is c.in_ok-path.ensures)
    (ap (cap_at c.args.payload.now) (sym c.as_slice.ensures.value) ∙ sym c.cap_at.ensures ∙ c.in-NotCap.is)
