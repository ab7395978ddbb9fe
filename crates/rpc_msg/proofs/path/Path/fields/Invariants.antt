use Rattle.std.proofs.Common.{◌≡◌, ◌≤◌, ◌++◌, drop, length}
use Rattle.rpc_msg.specs.Paths.{fields}
use Rattle.rpc_msg.proofs.path.Path.fields.Given as goal

-- the fields so far, and those of the steps that are left, are all fields
abbrev pub invariant-loop-op : goal.invariant-loop-op
invariant-loop-op l = record {
  all : l.kept ++ fields (drop l.op-index l.op-items) ≡ fields l.op-items;
  short : length l.kept ≤ l.op-index;
}
