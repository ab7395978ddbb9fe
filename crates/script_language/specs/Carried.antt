-- The payloads and the exception of a script's commands (docs/script.md, "Lines").
use Rattle.std.specs.Prelude.{ℕ, zero, suc, [], map, codes}
use Rattle.std.specs.List.{range_with_len}
use Rattle.rpc_msg.specs.Payloads.{Contents, null_payload}
use Rattle.capn_trees.specs.Trees.{Tree, struct, capability}
use Rattle.capn_trees.specs.Views.{trees_of}
use Rattle.capn_writing.specs.Placing.{written}
use Rattle.rpc_msg.specs.declared.exception.Exception.{Exception}
use Rattle.rpc_msg.specs.declared.exception.ExceptionKind.TheVariants.{Failed}

-- A struct without data, whose pointer i is capability i.
abbrev pub caps_tree : ℕ → Tree
caps_tree n = struct [] (trees_of (map capability (range_with_len 0 n)))

-- The payload that carries so many capabilities: null where there are none.
abbrev pub carrying : ℕ → Contents
carrying zero = null_payload
carrying (suc n) = record { bytes = written (caps_tree (suc n)); caps = suc n }

-- Failed, `script`.
abbrev pub script_exception : Exception
script_exception = record { kind = Failed; reason = codes "script" }
