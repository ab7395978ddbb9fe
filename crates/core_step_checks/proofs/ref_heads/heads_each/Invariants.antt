use Rattle.std.proofs.Common.{◌≡◌, ◌+◌, ◌-◌, ◌≤◌, take, length, vec_len, vec_capacity}
use Rattle.rpc_machine.specs.Commands.{heads}
use Rattle.core_store.specs.Holding.{state_of}
use Rattle.core_step_checks.proofs.ref_heads.heads_each.Given as goal

abbrev pub invariant-loop-id : goal.invariant-loop-id
invariant-loop-id l = record {
  heads : l.nodes.items ≡ heads (state_of l.store) (take l.id-index l.refs);
  room : vec_len l.nodes + (length l.refs - l.id-index) ≤ vec_capacity l.nodes;
}
