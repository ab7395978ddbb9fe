use Rattle.link_rings.specs.LoggedSides.{at}
use Rattle.link_rings.proofs.Holding.{sits_command}
use Rattle.link_rings.proofs.Sitting.{laid_out, taken_back}
use Rattle.link_rings.proofs.seat.Seat.command.Goals as goal

pub invariant_of-self : goal.invariant_of-self
invariant_of-self g c =
    let m = g.P.Party in
    let i = c.self.inside in
    let d = c.obey-answer.new.self in
    let start = m.state i.start.value in
    taken_back m.state m.down_by m.input m.sends m.step start d c.take_back.new.self c.take_back.ensures
    (sits_command m.down_by m.input m.sends m.step m.answers start (at m.state (record i.logged { waiting = c.lay_out.new.queue })) (at m.state d) c.args.command c.obey-answer.result
    (laid_out m.state m.down_by m.input m.sends m.step start i.logged c.lay_out.new.queue i.made c.lay_out.ensures c.self.invariant.0) c.obey-answer.ensures.commands)
    c.obey-answer.ensures.ready
