use Rattle.std.proofs.Common.{◌≡◌, drop}
use Rattle.capn_trees.specs.Views.{trees_view}
use Rattle.peer_tail_calls.specs.Noting.{noted_all}
use Rattle.peer_tail_calls.specs.Paths.{finds_each}
use Rattle.peer_tail_calls.proofs.paths.+noting.Given as goal

-- what is left to note leads where all of it does
abbrev pub invariant-note_each-loop-tree : goal.invariant-note_each-loop-tree
invariant-note_each-loop-tree l =
    noted_all l.found.items (finds_each l.path l.number (trees_view (drop l.tree-index l.trees))) ≡ noted_all l.fn.found.items (finds_each l.path 0 (trees_view l.trees))
