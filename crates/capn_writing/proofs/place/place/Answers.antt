use Rattle.std.proofs.Common.{ℕ, List, [], ◌∷◌, ◌++◌, length, ap, ◌∙◌, arith}
use Rattle.std.proofs.lemmas.Result.{err_from_is_err_and}
use Rattle.capn_writing.proofs.place.place.Goals as goal

pub returns-in_err-words-clause-placed : goal.returns-in_err-words-clause-placed
returns-in_err-words-clause-placed c = rw (err_from_is_err_and c.from_residual.result c.from_residual.ensures.1).1 tt

pub returns-in_err-words-clause-fits : goal.returns-in_err-words-clause-fits
returns-in_err-words-clause-fits c = rw (err_from_is_err_and c.from_residual.result c.from_residual.ensures.1).1 tt

pub push_reserved-requires : goal.push_reserved-requires
push_reserved-requires c =
    let none = c.in_ok-words.ensures.len in
    let room = c.in_ok-words.ensures.exact in
    let count = c.requires.count in
    omega (arith, none, room, count)

pub place_tree-root-requires-clause-ahead : goal.place_tree-root-requires-clause-ahead
place_tree-root-requires-clause-ahead c =
    let one = ap length (c.push_reserved.ensures.items ∙ ap (λ (l : List ℕ). l ++ 0 ∷ []) c.in_ok-words.ensures.items) in
    omega (arith, one)

pub place_tree-root-requires-clause-sizes : goal.place_tree-root-requires-clause-sizes
place_tree-root-requires-clause-sizes c = c.requires.sizes

pub place_tree-root-requires-clause-room : goal.place_tree-root-requires-clause-room
place_tree-root-requires-clause-room c =
    let one = ap length (c.push_reserved.ensures.items ∙ ap (λ (l : List ℕ). l ++ 0 ∷ []) c.in_ok-words.ensures.items) in
    let kept = c.push_reserved.ensures.capacity in
    let made = c.in_ok-words.ensures.exact in
    let count = c.requires.count in
    let few = c.requires.room in
    record {
      few = omega (arith, one, few);
      spare = omega (arith, one, kept, made, count);
    }

pub returns-clause-fits : goal.returns-clause-fits
returns-clause-fits c = c.place_tree-root.ensures.fits
