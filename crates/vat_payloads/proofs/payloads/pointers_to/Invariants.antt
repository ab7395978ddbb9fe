use Rattle.std.proofs.Common.{◌≡◌, ◌++◌, map}
use Rattle.std.specs.Prelude.{option_map}
use Rattle.std.specs.List.{range_with_len}
use Rattle.capn_trees.specs.Trees.{capability}
use Rattle.capn_trees.specs.Views.{view, held}
use Rattle.vat_payloads.specs.Contents.{to_text}
use Rattle.vat_payloads.proofs.payloads.pointers_to.Given as goal

abbrev pub invariant-loop-index : goal.invariant-loop-index
invariant-loop-index l = map view (held l.pointers) ≡ to_text (option_map (λ t. t.now) l.text) ++ map capability (range_with_len 0 l.index)
