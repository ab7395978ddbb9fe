use Rattle.std.proofs.Common.{sym, subst}
use Rattle.peer_large.specs.declared.opening.Opened.{Opened}
use Rattle.peer_large.specs.Opening.{seen}
use Rattle.peer_large.specs.Sparing.{Comes, comes}
use Rattle.peer_large.proofs.adapter.SparingAdapter.inbound.Goals as goal

pub returns-in-Envelope : goal.returns-in-Envelope
returns-in-Envelope g c =
    λ t full standing broken finished.
    subst (λ (o : Opened). Comes (comes t c.args.self.now (seen o)) c.pass_in.result c.pass_in.new.self) (sym c.in-Envelope.is) (c.pass_in.ensures t full standing broken finished)

pub returns-in-Spared : goal.returns-in-Spared
returns-in-Spared g c =
    λ t full standing broken finished.
    subst (λ (o : Opened). Comes (comes t c.args.self.now (seen o)) c.spare.result c.spare.new.self) (sym c.in-Spared.is) (c.spare.ensures t full standing broken finished)
