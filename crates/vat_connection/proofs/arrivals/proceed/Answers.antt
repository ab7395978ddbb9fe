use Rattle.std.proofs.Common.{refl, sym, ◌∙◌}
use Rattle.vat_connection.specs.Hearing.{left_by}
use Rattle.vat_connection.proofs.Turns.{leaves_down, leaves_up}
use Rattle.vat_connection.proofs.arrivals.proceed.Goals as goal

pub returns-then-is_down : goal.returns-then-is_down
returns-then-is_down c =
    let mid = c.hear_all.new.speaker in
    let left = left_by mid.host.core.down c.hear_all.new.inflow.unheard in (
      mid,
      left,
      c.hear_all.ensures.turn,
      leaves_down mid.host.core.down mid mid left c.args.inflow.now.waiting c.args.inflow.now.over c.new.result (sym c.is_down.ensures ∙ c.if-is_down.true) refl c.new.ensures,
    )

pub returns : goal.returns
returns c =
    let mid = c.hear_all.new.speaker in (
      mid,
      left_by mid.host.core.down c.hear_all.new.inflow.unheard,
      c.hear_all.ensures.turn,
      leaves_up mid.host.core.down mid c.rest.new.speaker c.hear_all.new.inflow.unheard c.args.inflow.now c.hear_all.new.inflow c.rest.new.inflow (sym c.is_down.ensures ∙ c.if-is_down.false)
          c.hear_all.ensures.rest c.rest.ensures,
    )
