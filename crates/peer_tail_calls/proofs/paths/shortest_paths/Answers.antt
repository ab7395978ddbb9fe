use Rattle.std.proofs.Common.{List, [], ap, ◌∙◌}
use Rattle.capn_trees.specs.Trees.{Tree}
use Rattle.capn_trees.specs.Views.{view}
use Rattle.rpc_msg.specs.Op.{Op}
use Rattle.rpc_msg.specs.Payloads.{tree_of}
use Rattle.peer_tail_calls.specs.Noting.{noted_all}
use Rattle.peer_tail_calls.specs.Paths.{finds}
use Rattle.peer_tail_calls.proofs.Finding.{found_length, all_shortest}
use Rattle.peer_tail_calls.proofs.paths.shortest_paths.Goals as goal

pub returns : goal.returns
returns c =
    let is_found = c.note_tree.ensures ∙ ap (λ (p : List Op). noted_all c.in_ok-found.found.items (finds p (view c.in_ok-tree.tree))) c.root.ensures ∙ ap (λ (u : Tree). noted_all c.in_ok-found.found.items (finds [] u)) c.in_ok-tree.ensures in
    record {
      len = found_length (tree_of c.args.payload.now) c.args.count c.in_ok-found.found.items c.note_tree.new.found.items c.in_ok-found.ensures is_found;
      paths = all_shortest (tree_of c.args.payload.now) c.args.count c.in_ok-found.found.items c.note_tree.new.found.items c.in_ok-found.ensures is_found;
    }
