-- Lines, and names, gone through one after the other.
use Rattle.std.proofs.Common.{ℕ, List, ◌++◌, Result, Ok, Err}
use Rattle.rpc_msg.specs.declared.ids.RefId.{RefId}
use Rattle.script_language.specs.declared.fault.LineFault.{LineFault}
use Rattle.script_language.specs.declared.fault.NameFault.{NameFault}
use Rattle.script_language.specs.declared.line.Line.{Line}

-- What was read, and what is still to come.
abbrev pub behind : List Line → Result (List Line) (ℕ × LineFault) → Result (List Line) (ℕ × LineFault)
behind read (Ok ls) = Ok (read ++ ls)
behind read (Err f) = Err f

-- What was found, and what is still to come.
abbrev pub refs_behind : List RefId → Result (List RefId) NameFault → Result (List RefId) NameFault
refs_behind found (Ok rs) = Ok (found ++ rs)
refs_behind found (Err e) = Err e
