-- Which fault a script has, by how the work of both vats ended (docs/script.md, "Two threads").
use Rattle.std.specs.Prelude.{ℕ, Bool, true, false, ◌||◌, nat_lt, cond, Option, None, Some, Result, Ok, Err}
use Rattle.script_language.specs.declared.fault.NameFault.{NameFault}
use Rattle.link_workers.specs.declared.worker_end.WorkerEnd.{WorkerEnd}
use Rattle.link_workers.specs.declared.worker_end.WorkerEnd.TheVariants as ends
use Rattle.vat_trace_lib.specs.declared.fault.ScriptFault.{ScriptFault}
use Rattle.vat_trace_lib.specs.declared.fault.ScriptFault.TheVariants as fault

abbrev pub lacks_memory : WorkerEnd → Bool
lacks_memory ends.Done = false
lacks_memory (ends.Down n) = false
lacks_memory ends.GateNo = false
lacks_memory (ends.ScriptFault number f) = false
lacks_memory ends.Limit = false
lacks_memory ends.Stopped = false
lacks_memory ends.Memory = true

-- The number of the line at fault, and what it names.
abbrev pub line_at_fault : WorkerEnd → Option (ℕ × NameFault)
line_at_fault ends.Done = None
line_at_fault (ends.Down n) = None
line_at_fault ends.GateNo = None
line_at_fault (ends.ScriptFault number f) = Some (number, f)
line_at_fault ends.Limit = None
line_at_fault ends.Stopped = None
line_at_fault ends.Memory = None

-- The one with the lower number.
abbrev pub lower_of : Option (ℕ × NameFault) → Option (ℕ × NameFault) → Option (ℕ × NameFault)
lower_of None y = y
lower_of (Some x) None = Some x
lower_of (Some x) (Some y) = cond (nat_lt y.0 x.0) (Some y) (Some x)

abbrev pub unnamed_at : Option (ℕ × NameFault) → Result Unit ScriptFault
unnamed_at None = Ok tt
unnamed_at (Some x) = Err (fault.Unnamed x.0 x.1)

-- Want of memory, or else the lower of the lines at fault.
abbrev pub judged : WorkerEnd → WorkerEnd → Result Unit ScriptFault
judged a b = cond (lacks_memory a || lacks_memory b) (Err fault.Memory) (unnamed_at (lower_of (line_at_fault a) (line_at_fault b)))
