-- Two vats as `pair` begins with them, and the journal that it prints (docs/script.md, "Two threads").
use Rattle.std.specs.Prelude.{◌≡◌, List, [], ◌∷◌, ◌++◌}
use Rattle.rpc_msg.specs.declared.ids.Vat.{Vat}
use Rattle.rpc_msg.specs.declared.ids.Vat.TheVariants.{A, B}
use Rattle.rpc_journal.specs.declared.entry.JournalEntry.{JournalEntry}
use Rattle.rpc_machine.specs.declared.command.Level.TheVariants.{One}
use Rattle.rpc_machine.specs.State.{State, start}
use Rattle.rpc_machine.specs.World.{tables_entry}
use Rattle.link_logs.specs.Steps.{Held}
use Rattle.link_logs.specs.Promises.{Pair, IsTold, world_of}
use Rattle.link_rings.specs.Ends.{IsNew}
use Rattle.link_workers.specs.declared.worker_end.WorkerEnd.{WorkerEnd}
use Rattle.link_driver.specs.Ends.{VatEnded, AreEnds, new_held}
use Rattle.link_driver.specs.Runs.{AreWorked}
use Rattle.script_language.specs.declared.line.Line.{Line}
use Rattle.vat_trace_lib.specs.Traces.{first_object}

-- A new vat of level 1 with bootstrap object 0, of which nothing was written.
abbrev pub first_state : Vat → State
first_state v = start v One first_object

abbrev pub first_held : Vat → Held
first_held v = new_held (first_state v)

-- The two ends of one link, of two such vats.
pub record AreFirst (a b : VatEnded) : Type 0 where
  pub ends : AreEnds a b
  pub new_a : IsNew (first_held A) a
  pub new_b : IsNew (first_held B) b

-- Two such ends were worked by these lines until their work ended so, and these are their vats and logs.
pub record WorksFirst (lines : List Line) (why_a why_b : WorkerEnd) (p : Pair) : Type 0 where
  pub a : VatEnded
  pub b : VatEnded
  pub first : AreFirst a b
  pub worked : AreWorked a b lines why_a why_b p

-- The journal of both (`link_logs/specs/Promises`), with the counts of both vats at its end.
abbrev pub noted : Pair → List JournalEntry → List JournalEntry
noted p journal = journal ++ tables_entry (world_of p) ∷ []

abbrev pub IsNoted : Pair → List JournalEntry → Type 0
IsNoted p entries = (journal : List JournalEntry) × IsTold p journal × (entries ≡ noted p journal)
