use Rattle.std.proofs.Common.{◌≡◌, ℕ, ◌≤◌, Option, take, drop}
use Rattle.std.specs.FinMap as map
use Rattle.rpc_machine.specs.declared.node.Node.{Node}
use Rattle.vat_tables.specs.Exports.{Tells, meet_limit}
use Rattle.vat_tables.proofs.Foreseeing.{counts_at}
use Rattle.vat_tables.proofs.exports.Exports.meets_limit.Given as goal

abbrev pub invariant-loop-at : goal.invariant-loop-at
invariant-loop-at l = record {
  ahead : (counts : Node → Option ℕ) → Tells l.self.entries counts
      → meet_limit (map.len l.self.entries) counts l.nodes ≡ meet_limit l.size (counts_at counts (take l.at l.nodes)) (drop l.at l.nodes);
  within : l.size ≤ 4096;
}
