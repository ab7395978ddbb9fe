use Rattle.std.proofs.Common.{sym, ap, ◌∙◌}
use Rattle.std.specs.FinMap as finite
use Rattle.rpc_codec.specs.Envelopes.{seen_envelope}
use Rattle.peer_overload.specs.Overloading.{Overloading}
use Rattle.peer_overload.proofs.Aside.{passed}
use Rattle.peer_overload.proofs.overload.Overload.inbound.Goals as goal

pub returns-then-len-eq0 : goal.returns-then-len-eq0
returns-then-len-eq0 c =
    passed c.args.self.now c.args.is_full (seen_envelope c.args.came) c.if-not-is_full.true
    (ap (λ (s : Overloading). finite.len s) (sym c.self.view_is) ∙ sym c.len.ensures ∙ c.if-len-eq0.true)
