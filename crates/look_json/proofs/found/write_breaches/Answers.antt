use Rattle.std.proofs.Common.{ℕ, ◌+◌, map, ap, ◌∙◌}
use Rattle.serde_json.specs.View.{view}
use Rattle.serde_json.proofs.Views.{view-Array}
use Rattle.look_json.specs.Lines.{IsBroken}
use Rattle.look_json.proofs.Said.{said_more, said_all}
use Rattle.look_json.proofs.found.write_breaches.Goals as goal

pub loop-breach-preserved : goal.loop-breach-preserved
loop-breach-preserved c = record {
  said = said_more IsBroken c.push_reserved.new.self.items c.loop-breach.values.items c.args.breaches.now c.loop-breach.breach-index _ _ c.push_reserved.ensures.items c.loop-breach-test.true c.in_ok-write_breach.ensures
      c.loop-breach.invariant.said;
  count = c.push_reserved.ensures.len ∙ ap (λ (n : ℕ). n + 1) c.loop-breach.invariant.count;
  room = c.push_reserved.ensures.capacity ∙ c.loop-breach.invariant.room;
}

pub returns : goal.returns
returns c = (
  map view c.loop-breach.values.items,
  said_all IsBroken c.loop-breach.values.items c.args.breaches.now c.loop-breach.breach-index c.loop-breach-test.false c.loop-breach.invariant.said,
  view-Array c.loop-breach.values,
)
