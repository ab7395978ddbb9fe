use Rattle.std.proofs.Common.{refl, sym, subst, ◌∙◌}
use Rattle.rtrb.specs.Ring.{sent, received}
use Rattle.link_rings.specs.declared.turn.Turn.TheVariants.{Handled, Down}
use Rattle.link_rings.specs.LoggedSides.{at}
use Rattle.link_rings.specs.Ends.{Ended, Turns}
use Rattle.link_rings.proofs.Holding.{runs_take, passes_take}
use Rattle.link_rings.proofs.Turning.{turn_takes, turn_falls}
use Rattle.link_rings.proofs.end.End.turn.Goals as goal

pub invariant_of-self-in-Ok-take : goal.invariant_of-self-in-Ok-take
invariant_of-self-in-Ok-take g c =
    let m = g.P.Party in
    let i = c.self.inside in (
      runs_take m.down_by m.input m.sends m.step m.tells (m.state i.start.value) (at m.state i.logged) (at m.state c.take.new.self) c.in-Ok.frame c.take.result c.self.invariant.0 c.take.ensures.takes,
      passes_take m.down_by m.input m.sends m.step m.tells (m.down_by (m.state i.logged.side)) (at m.state i.logged) (at m.state c.take.new.self) (sent i.producer) (received i.consumer) (received c.pop.new.self) c.in-Ok.frame c.take.result c.self.invariant.1 (sym c.down.ensures ∙ c.in_default.is) c.take.ensures.takes (c.in-Ok.ensures.ok.0),
      c.take.ensures.ready,
    )

pub invariant_of-self-in-Err : goal.invariant_of-self-in-Err
invariant_of-self-in-Err g c =
    let m = g.P.Party in
    let i = c.self.inside in (
      runs_take m.down_by m.input m.sends m.step m.tells (m.state i.start.value) (at m.state i.logged) (at m.state c.take.new.self) c.in-Ok.frame c.take.result c.self.invariant.0 c.take.ensures.takes,
      passes_take m.down_by m.input m.sends m.step m.tells (m.down_by (m.state i.logged.side)) (at m.state i.logged) (at m.state c.take.new.self) (sent i.producer) (received i.consumer) (received c.pop.new.self) c.in-Ok.frame c.take.result c.self.invariant.1 (sym c.down.ensures ∙ c.in_default.is) c.take.ensures.takes (c.in-Ok.ensures.ok.0),
      c.take.ensures.ready,
    )

pub returns-in-Ok-take-clause-turns : goal.returns-in-Ok-take-clause-turns
returns-in-Ok-take-clause-turns g c =
    let m = g.P.Party in
    let i = c.self.inside in
    let new : Ended _ _ _ = record { start = i.start.value; side = c.take.new.self.side; log = c.take.new.self.log.items; waiting = c.take.new.self.waiting; producer = i.producer; consumer = c.pop.new.self } in
    let old : Ended _ _ _ = record { start = i.start.value; side = i.logged.side; log = i.logged.log.items; waiting = i.logged.waiting; producer = i.producer; consumer = i.consumer } in
    subst (λ v. Turns m.state m.down_by m.input m.sends m.step m.tells (m.down_by (m.state v.side)) v (Handled c.in-Ok-take.effects) new) c.self.view_is
    (turn_takes m.state m.down_by m.input m.sends m.step m.tells (m.down_by (m.state i.logged.side)) old new c.in-Ok.frame c.in-Ok-take.effects (sym c.down.ensures ∙ c.in_default.is) (c.in-Ok.ensures.ok.0) refl c.in-Ok-take.ensures.takes)

pub returns-in-Err-clause-turns : goal.returns-in-Err-clause-turns
returns-in-Err-clause-turns g c =
    let m = g.P.Party in
    let i = c.self.inside in
    let new : Ended _ _ _ = record { start = i.start.value; side = c.take.new.self.side; log = c.take.new.self.log.items; waiting = c.take.new.self.waiting; producer = i.producer; consumer = c.pop.new.self } in
    let old : Ended _ _ _ = record { start = i.start.value; side = i.logged.side; log = i.logged.log.items; waiting = i.logged.waiting; producer = i.producer; consumer = i.consumer } in
    subst (λ v. Turns m.state m.down_by m.input m.sends m.step m.tells (m.down_by (m.state v.side)) v (Down c.in-Err.number) new) c.self.view_is
    (turn_falls m.state m.down_by m.input m.sends m.step m.tells (m.down_by (m.state i.logged.side)) old new c.in-Ok.frame c.in-Err.number (sym c.down.ensures ∙ c.in_default.is) (c.in-Ok.ensures.ok.0) refl c.in-Err.ensures.takes)
