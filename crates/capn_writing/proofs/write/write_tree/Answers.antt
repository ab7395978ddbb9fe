use Rattle.std.proofs.lemmas.Result.{err_from_is_err_and}
use Rattle.std.proofs.Common.{ℕ, List, subst, refl, ap, ◌∙◌, rules}
use Rattle.capn_trees.specs.Views.{view}
use Rattle.capn_trees.specs.Widths.{AreOf}
use Rattle.capn_writing.specs.Placing.{one_segment}
use Rattle.capn_writing.proofs.Writing.{told_so, can_write, sizes_at_root, room_at_root, count_at_root, short_segment, no_reason, some_reason}
use Rattle.capn_writing.proofs.write.write_tree.Goals as goal

pub returns-in-Some-clause-refused : goal.returns-in-Some-clause-refused
returns-in-Some-clause-refused c =
    let some = told_so (view c.args.tree.now) c.args.caps c.start.result c.measure_tree-measure.result c.start.ensures c.measure_tree-measure.ensures c.in-Some.ensures in
    some_reason (view c.args.tree.now) c.args.caps _ _ c.in-Some.fault some refl

pub place-requires-clause-sizes : goal.place-requires-clause-sizes
place-requires-clause-sizes c =
    let none = told_so (view c.args.tree.now) c.args.caps c.start.result c.measure_tree-measure.result c.start.ensures c.measure_tree-measure.ensures c.in_default.ensures in
    sizes_at_root (view c.args.tree.now) c.args.caps (can_write (view c.args.tree.now) c.args.caps none)

pub place-requires-clause-room : goal.place-requires-clause-room
place-requires-clause-room c =
    let none = told_so (view c.args.tree.now) c.args.caps c.start.result c.measure_tree-measure.result c.start.ensures c.measure_tree-measure.ensures c.in_default.ensures in
    room_at_root (view c.args.tree.now) c.args.caps (can_write (view c.args.tree.now) c.args.caps none)

pub place-requires-clause-count : goal.place-requires-clause-count
place-requires-clause-count c =
    let none = told_so (view c.args.tree.now) c.args.caps c.start.result c.measure_tree-measure.result c.start.ensures c.measure_tree-measure.ensures c.in_default.ensures in
    count_at_root (view c.args.tree.now) c.args.caps c.start.result c.measure_tree-measure.result c.start.ensures c.measure_tree-measure.ensures (can_write (view c.args.tree.now) c.args.caps none)

pub returns-in_err-words-clause-refused : goal.returns-in_err-words-clause-refused
returns-in_err-words-clause-refused c =
    let none = told_so (view c.args.tree.now) c.args.caps c.start.result c.measure_tree-measure.result c.start.ensures c.measure_tree-measure.ensures c.in_default.ensures in
    no_reason (view c.args.tree.now) c.args.caps _ _ none (search rules)

pub message_of-requires : goal.message_of-requires
message_of-requires c =
    let none = told_so (view c.args.tree.now) c.args.caps c.start.result c.measure_tree-measure.result c.start.ensures c.measure_tree-measure.ensures c.in_default.ensures in
    rw c.deref.ensures.value (short_segment (view c.args.tree.now) c.args.caps c.in_ok-words.words.items (can_write (view c.args.tree.now) c.args.caps none) c.in_ok-words.ensures.placed)

pub returns-in_err-message-clause-refused : goal.returns-in_err-message-clause-refused
returns-in_err-message-clause-refused c =
    let none = told_so (view c.args.tree.now) c.args.caps c.start.result c.measure_tree-measure.result c.start.ensures c.measure_tree-measure.ensures c.in_default.ensures in
    no_reason (view c.args.tree.now) c.args.caps _ _ none (search rules)

pub returns-clause-refused : goal.returns-clause-refused
returns-clause-refused c =
    let none = told_so (view c.args.tree.now) c.args.caps c.start.result c.measure_tree-measure.result c.start.ensures c.measure_tree-measure.ensures c.in_default.ensures in
    no_reason (view c.args.tree.now) c.args.caps _ _ none tt

pub returns-clause-possible : goal.returns-clause-possible
returns-clause-possible c =
    let none = told_so (view c.args.tree.now) c.args.caps c.start.result c.measure_tree-measure.result c.start.ensures c.measure_tree-measure.ensures c.in_default.ensures in
    none

pub returns-clause-placed : goal.returns-clause-placed
returns-clause-placed c =
    c.in_ok-message.ensures.bytes ∙ ap one_segment (c.deref.ensures.value ∙ c.in_ok-words.ensures.placed)

pub returns-clause-words : goal.returns-clause-words
returns-clause-words c =
    subst (λ (ws : List ℕ). AreOf 64 ws) (c.deref.ensures.value ∙ c.in_ok-words.ensures.placed) c.in_ok-message.ensures.fit

pub returns-in_err-words-clause-possible : goal.returns-in_err-words-clause-possible
returns-in_err-words-clause-possible c = rw (err_from_is_err_and c.from_residual.result c.from_residual.ensures.1).1 tt

pub returns-in_err-words-clause-placed : goal.returns-in_err-words-clause-placed
returns-in_err-words-clause-placed c = rw (err_from_is_err_and c.from_residual.result c.from_residual.ensures.1).1 tt

pub returns-in_err-words-clause-fits : goal.returns-in_err-words-clause-fits
returns-in_err-words-clause-fits c = rw (err_from_is_err_and c.from_residual.result c.from_residual.ensures.1).1 tt

pub returns-in_err-words-clause-words : goal.returns-in_err-words-clause-words
returns-in_err-words-clause-words c = rw (err_from_is_err_and c.from_residual.result c.from_residual.ensures.1).1 tt

pub returns-in_err-message-clause-possible : goal.returns-in_err-message-clause-possible
returns-in_err-message-clause-possible c = rw (err_from_is_err_and c.from_residual-in_err-message.result c.from_residual-in_err-message.ensures.1).1 tt

pub returns-in_err-message-clause-placed : goal.returns-in_err-message-clause-placed
returns-in_err-message-clause-placed c = rw (err_from_is_err_and c.from_residual-in_err-message.result c.from_residual-in_err-message.ensures.1).1 tt

pub returns-in_err-message-clause-fits : goal.returns-in_err-message-clause-fits
returns-in_err-message-clause-fits c = rw (err_from_is_err_and c.from_residual-in_err-message.result c.from_residual-in_err-message.ensures.1).1 tt

pub returns-in_err-message-clause-words : goal.returns-in_err-message-clause-words
returns-in_err-message-clause-words c = rw (err_from_is_err_and c.from_residual-in_err-message.result c.from_residual-in_err-message.ensures.1).1 tt

pub returns-clause-fits : goal.returns-clause-fits
returns-clause-fits c = c.in_ok-words.ensures.fits
