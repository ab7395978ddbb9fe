use Rattle.std.proofs.Common.{◌<◌, sym, subst, ◌∙◌, inl, inr}
use Rattle.link_rings.proofs.Logging.{falls}
use Rattle.link_rings.proofs.logged_side.LoggedSide.take.Goals as goal

pub returns-then-frame-heard-clause-takes : goal.returns-then-frame-heard-clause-takes
returns-then-frame-heard-clause-takes g c =
    falls g.P.Party.down_by g.P.Party.input g.P.Party.sends g.P.Party.step _ _ c.args.frame c.shut.result c.shut.ensures.logs
    (inl (c.shut.ensures.number, λ h. c.if-frame-heard.true (h ∙ sym c.heard.ensures)))

pub returns-then-frame-made-clause-takes : goal.returns-then-frame-made-clause-takes
returns-then-frame-made-clause-takes g c =
    falls g.P.Party.down_by g.P.Party.input g.P.Party.sends g.P.Party.step _ _ c.args.frame c.shut-then-frame-made.result c.shut-then-frame-made.ensures.logs
    (inr (c.shut-then-frame-made.ensures.number, c.if-frame-heard.false ∙ c.heard.ensures, subst (λ q. q < c.args.frame.ack) c.made.ensures c.if-frame-made.true))
