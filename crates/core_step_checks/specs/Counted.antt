-- How often nodes go out, as it is counted.
use Rattle.std.specs.Prelude.{◌≡◌, ℕ, true, List, unwrap_or}
use Rattle.std.specs.HashMap.{get}
use Rattle.rpc_machine.specs.declared.node.Node.{Node}
use Rattle.rpc_machine.specs.Fullness.{is_exportable}
use Rattle.vat_tables.specs.Exports.{node_eq}
use Rattle.core_step_checks.specs.Sending.{times_among}
use Rattle.core_step_checks.specs.declared.times.Times.{Times}

abbrev pub times_of : Times → Node → ℕ
times_of t n = unwrap_or (get node_eq t.by_node n) 0

-- They are that of these nodes.
abbrev pub Counts : Times → List Node → Type 0
Counts t ns = (n : Node) → is_exportable n ≡ true → times_of t n ≡ times_among n ns
