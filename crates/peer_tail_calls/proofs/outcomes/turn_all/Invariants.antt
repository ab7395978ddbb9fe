use Rattle.std.proofs.Common.{◌≡◌, drop}
use Rattle.rpc_msg.specs.Payloads.{tree_of}
use Rattle.peer_tail_calls.specs.Turning.{turned_all}
use Rattle.peer_tail_calls.proofs.Turned.{behind}
use Rattle.peer_tail_calls.proofs.outcomes.turn_all.Given as goal

-- those that were turned, and what becomes of the others, are all
abbrev pub invariant-loop-index : goal.invariant-loop-index
invariant-loop-index l = turned_all l.answer (tree_of l.payload) 0 l.descriptors ≡ behind l.turned.items (turned_all l.answer (tree_of l.payload) l.index (drop l.index l.descriptors))
