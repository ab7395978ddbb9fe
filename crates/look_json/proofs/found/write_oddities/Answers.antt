use Rattle.std.proofs.Common.{ℕ, ◌+◌, map, ap, ◌∙◌}
use Rattle.serde_json.specs.View.{view}
use Rattle.serde_json.proofs.Views.{view-Array}
use Rattle.look_books.specs.declared.oddity.Oddity.TheVariants.{ReleasesNone}
use Rattle.look_json.specs.Lines.{IsOdd}
use Rattle.look_json.proofs.Said.{said_more, said_all}
use Rattle.look_json.proofs.found.write_oddities.Goals as goal

pub loop-oddity-preserved : goal.loop-oddity-preserved
loop-oddity-preserved c = record {
  said = said_more IsOdd c.push_reserved.new.self.items c.loop-oddity.values.items c.args.oddities.now c.loop-oddity.oddity-index (ReleasesNone (record { 0 = 0 })) _ c.push_reserved.ensures.items c.loop-oddity-test.true c.in_ok-write_oddity.ensures
      c.loop-oddity.invariant.said;
  count = c.push_reserved.ensures.len ∙ ap (λ (n : ℕ). n + 1) c.loop-oddity.invariant.count;
  room = c.push_reserved.ensures.capacity ∙ c.loop-oddity.invariant.room;
}

pub returns : goal.returns
returns c = (
  map view c.loop-oddity.values.items,
  said_all IsOdd c.loop-oddity.values.items c.args.oddities.now c.loop-oddity.oddity-index c.loop-oddity-test.false c.loop-oddity.invariant.said,
  view-Array c.loop-oddity.values,
)
