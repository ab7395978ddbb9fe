use Rattle.std.proofs.Common.{◌≡◌, sym, ap, subst}
use Rattle.std.specs.Prelude.{Option, MatchOption}
use Rattle.rpc_msg.specs.declared.message.Resolve.{Resolve}
use Rattle.rpc_codec.specs.Envelopes.{seen_envelope}
use Rattle.peer_kinds.specs.declared.outcome.Kinds.{Kinds}
use Rattle.peer_kinds.specs.Kinds.{comes_by, hears, seen_kinds}
use Rattle.peer_kinds.proofs.kinds.aside_of.Goals as goal

pub returns-in-Some : goal.returns-in-Some
returns-in-Some g c = λ stands tells.
    let w = seen_envelope c.args.came.now in
    subst (λ (o : Option Resolve). MatchOption c.resolve_aside.result (comes_by stands w o ≡ hears stands w) (λ (kinds : Kinds). seen_kinds kinds ≡ comes_by stands w o)) c.in-Some.ensures
    (c.resolve_aside.ensures stands w tells)

pub returns-in-None : goal.returns-in-None
returns-in-None g c = λ stands tells. ap (λ (o : Option Resolve). comes_by stands (seen_envelope c.args.came.now) o) (sym c.in-None.ensures)
