use Rattle.std.proofs.Common.{◌≡◌, ◌-◌, ℕ, Option, drop, sym, ap, subst, ◌∙◌, arith}
use Rattle.std.specs.BTreeMap.{get}
use Rattle.std.specs.Ordering.{nat_cmp}
use Rattle.capn_trees.specs.Views.{structs_view}
use Rattle.look_names.specs.Names.{id_in, noted, place_from}
use Rattle.look_names.proofs.Rows.{place_before}
use Rattle.look_names.proofs.schema.places_of.Goals as goal

pub loop-place-preserved : goal.loop-place-preserved
loop-place-preserved c =
    let k = c.loop-place.place - 1 in (
      omega (arith, c.loop-place.invariant.0),
      λ id.
          c.in_ok-note.ensures id
          ∙ ap (λ (o : Option ℕ). noted (id_in (structs_view (drop k c.args.nodes.now))) k o id) (c.loop-place.invariant.1 id)
          ∙ sym (place_before c.args.nodes.now c.loop-place.place c.loop-place-test.true c.loop-place.invariant.0 id),
    )

pub returns : goal.returns
returns c = λ id.
    let none : c.loop-place.place ≡ 0 = omega (arith, c.loop-place-test.false) in
    subst (λ (p : ℕ). get nat_cmp c.loop-place.places id ≡ place_from (structs_view (drop p c.args.nodes.now)) id p) none (c.loop-place.invariant.1 id)
