use Rattle.std.proofs.Common.{sym, ◌∙◌}
use Rattle.rtrb.specs.Ring.{sent, received}
use Rattle.link_rings.specs.LoggedSides.{at}
use Rattle.link_rings.proofs.Holding.{runs_command, passes_command}
use Rattle.link_rings.proofs.end.End.command.Goals as goal

pub invariant_of-self : goal.invariant_of-self
invariant_of-self g c =
    let m = g.P.Party in
    let i = c.self.inside in (
      runs_command m.down_by m.input m.sends m.step m.answers (m.state i.start.value) (at m.state i.logged) (at m.state c.obey.new.self) c.args.command c.obey.result c.self.invariant.0 c.obey.ensures.commands,
      passes_command m.down_by m.input m.sends m.step m.answers (m.down_by (m.state i.logged.side)) (m.down_by (m.state c.obey.new.self.side)) (at m.state i.logged) (at m.state c.obey.new.self) (sent i.producer) (received i.consumer) c.args.command c.obey.result c.self.invariant.1 (sym c.down.ensures ∙ c.in-None.is) c.obey.ensures.commands,
      c.obey.ensures.ready,
    )
