use Rattle.std.proofs.Common.{◌≡◌, ap, ◌∙◌, arith}
use Rattle.std.specs.FinMap as map
use Rattle.core_outbox.specs.Outgoing.{Outgoing}
use Rattle.core_outbox.proofs.Search.{len_none}
use Rattle.core_outbox.proofs.outbox.Outbox.take_said.Goals as goal

pub invariant_of-self-2 : goal.invariant_of-self-2
invariant_of-self-2 c =
    let finishes : map.len c.self.inside.finishes.0 ≡ 0 = len_none _ (ap (λ (o : Outgoing). o.finishes) c.self.view_is ∙ c.requires.finishes) in
    let releases : map.len c.self.inside.releases.0 ≡ 0 = len_none _ (ap (λ (o : Outgoing). o.releases) c.self.view_is ∙ c.requires.releases) in
    (omega (arith, c.let_go.ensures.len, finishes, releases), omega arith, omega arith, omega (arith, c.let_go-2.ensures.len), omega (arith, c.let_go-3.ensures.len))
