use Rattle.std.proofs.Common.{◌≡◌, ◌++◌, ◌∷◌, List, ℕ, [], length, sym, subst, ◌∙◌, arith}
use Rattle.std.proofs.lemmas.List.{length-take}
use Rattle.std.proofs.lemmas.Bool.Decides.{nat_tests}
use Rattle.capn_stream.specs.declared.front.Front.TheVariants.{Complete}
use Rattle.capn_stream.specs.Fronts.{front_of, IsHeld}
use Rattle.capn_stream.proofs.Stable.{complete_there, held_whole}
use Rattle.capn_stream.proofs.reader.fill.Goals as goal

pub slice_bounds-grow-end : goal.slice_bounds-grow-end
slice_bounds-grow-end c =
    let front : front_of c.args.piece.now ≡ Complete c.in-Complete.len = sym c.next_frame.ensures ∙ c.in-Complete.is in
    let there = complete_there c.args.piece.now c.in-Complete.len front in
    let size = length-take c.in-Complete.len c.args.piece.now in
    omega arith

-- nothing was there before
alone : (old new more : List ℕ) → length old ≡ 0 → new ≡ old ++ more → new ≡ more
alone [] new more none grown = grown
alone (x ∷ old) new more none grown = absurd (omega arith)

pub returns-in-Complete-clause-held : goal.returns-in-Complete-clause-held
returns-in-Complete-clause-held c =
    let front : front_of c.args.piece.now ≡ Complete c.in-Complete.len = sym c.next_frame.ensures ∙ c.in-Complete.is in
    let none : length c.args.bytes.now.items ≡ 0 = grind (arith, nat_tests) in
    let is = alone c.args.bytes.now.items c.grow.new.bytes.items _ none c.in_ok-grow.ensures.ok in
    subst IsHeld (sym is) (held_whole c.args.piece.now c.in-Complete.len front)
