use Rattle.std.proofs.Common.{◌≡◌, drop}
use Rattle.script_language.specs.Bindings.{references_at}
use Rattle.script_language.proofs.Going.{refs_behind}
use Rattle.script_language.proofs.names.VatNames.references_at.Given as goal

-- the references so far, and those of the names that are left, are all references
abbrev pub invariant-loop-name : goal.invariant-loop-name
invariant-loop-name l = refs_behind l.refs (references_at l.self (drop l.name-index l.names)) ≡ references_at l.self l.names
