-- Words read one after the other.
use Rattle.std.proofs.Common.{List, ◌++◌, Result, Ok}
use Rattle.script_language.specs.declared.fault.LineFault.{LineFault}
use Rattle.script_language.specs.Words.{and_then}

-- What was read, and what is still to come.
abbrev pub after : {X : Type 0} → List X → Result (List X) LineFault → Result (List X) LineFault
after read rest = and_then rest (λ xs. Ok (read ++ xs))
