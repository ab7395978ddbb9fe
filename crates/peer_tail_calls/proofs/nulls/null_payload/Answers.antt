use Rattle.std.proofs.Common.{List, IfOk, sym, subst, ◌∙◌}
use Rattle.rpc_msg.specs.declared.parts.Descriptor.{Descriptor}
use Rattle.peer_tail_calls.specs.Nulling.{IsPayloadLaidOut}
use Rattle.peer_tail_calls.proofs.Absent.{anew_laid, nothing_laid}
use Rattle.peer_tail_calls.proofs.nulls.null_payload.Goals as goal

pub returns-then-not-some_absent-clause-laid : goal.returns-then-not-some_absent-clause-laid
returns-then-not-some_absent-clause-laid c =
    subst (λ (ds : List Descriptor). IsPayloadLaidOut ds c.args.payload) c.as_slice-rows.ensures
    (nothing_laid c.as_slice-rows.result.now c.args.payload (sym c.some_absent.ensures ∙ c.if-not-some_absent.true))

pub returns-clause-laid : goal.returns-clause-laid
returns-clause-laid c =
    subst (λ (ds : List Descriptor). IfOk c.lay_out.result (λ made. IsPayloadLaidOut ds c.args.payload)) c.as_slice-rows.ensures
    (anew_laid c.as_slice-rows.result.now c.args.payload c.lay_out.result (sym c.some_absent.ensures ∙ c.if-not-some_absent.false) c.lay_out.ensures.made c.lay_out.ensures.tree)
