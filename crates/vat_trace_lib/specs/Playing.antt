-- What the lines of a script do to two vats and to the script's names (docs/script.md, "Lines" and "Names").
use Rattle.std.specs.Prelude.{ℕ, ◌≡◌, ◌+◌, Some, Result, Ok, Err, List, [], ◌∷◌, ◌++◌, take}
use Rattle.rpc_msg.specs.declared.ids.Vat.{Vat}
use Rattle.rpc_machine.specs.World.{tables_entry}
use Rattle.vat_world.specs.Answer.{Answer}
use Rattle.vat_world.specs.Answer.TheVariants.{Done, Refused}
use Rattle.script_language.specs.declared.act.Act.{Act}
use Rattle.script_language.specs.declared.act.Act.TheVariants as act
use Rattle.script_language.specs.declared.line.Line.{Line}
use Rattle.script_language.specs.declared.line.Line.TheVariants as line
use Rattle.script_language.specs.declared.line.LineCommand.{LineCommand}
use Rattle.script_language.specs.declared.names.Names.{Names}
use Rattle.script_language.specs.declared.fault.GiveFault.{GiveFault}
use Rattle.script_language.specs.declared.fault.GiveFault.TheVariants as gives
use Rattle.script_language.specs.declared.fault.NameFault.{NameFault}
use Rattle.script_language.specs.Acting.{act_for}
use Rattle.script_language.specs.Bindings.{names_of, with_names_of, bind_reference, binds, handed}
use Rattle.vat_world.specs.declared.answer.StepAnswer.{StepAnswer}
use Rattle.vat_world.specs.declared.answer.StepAnswer.TheVariants as step
use Rattle.vat_world.specs.World.{Seen, Steps}
use Rattle.vat_trace_lib.specs.declared.fault.ScriptFault.{ScriptFault}
use Rattle.vat_trace_lib.specs.declared.fault.ScriptFault.TheVariants as fault

-- ---- What the names are told

-- A command that is granted binds what its line names; a refused one binds nothing.
abbrev pub answered : Names → Vat → LineCommand → Answer → Names
answered names v said (Done granted told) = handed (binds names v said granted) v told
answered names v said (Refused why back) = names

abbrev pub told_command : Names → Vat → LineCommand → StepAnswer → Names
told_command names v said (step.Answered a) = answered names v said a
told_command names v said (step.Handled told) = names
told_command names v said step.Empty = names

abbrev pub told_delivery : Names → Vat → StepAnswer → Names
told_delivery names v (step.Answered a) = names
told_delivery names v (step.Handled told) = handed names v told
told_delivery names v step.Empty = names

-- What the names are once a line's event was answered so.
abbrev pub told : Names → Line → StepAnswer → Names
told names (line.Command v said) a = told_command names v said a
told names (line.Deliver v) a = told_delivery names v a
told names line.Skip a = names
told names (line.Turn v) a = names
told names line.Tables a = names
told names (line.Take v l) a = names
told names (line.Got v l) a = names

-- ---- Lines

-- The counts of both vats are written at the end of the journal.
abbrev pub noted : Seen → Seen
noted w = record w { journal = w.journal ++ tables_entry w.world ∷ [] }

-- What a line does. A script for `run` has no line that takes turns.
abbrev pub Does : Seen → Names → Line → Act → Seen → Names → Type 0
Does w names l act.Nothing new bound = (new ≡ w) × (bound ≡ names)
Does w names l (act.Turn v) new bound = (new ≡ w) × (bound ≡ names)
Does w names l act.Tables new bound = (new ≡ noted w) × (bound ≡ names)
Does w names l (act.Name v name r) new bound = (new ≡ w) × (bound ≡ with_names_of v (bind_reference (names_of v names) (Some name) r) names)
Does w names l (act.Happens e) new bound = (a : StepAnswer) × Steps w e a new × (bound ≡ told names l a)

-- A line does what it says, or names something that is not there; the first such thing is the fault.
abbrev pub PlaysLine : Seen → Names → Line → Result Unit GiveFault → Seen → Names → Type 0
PlaysLine w names l (Ok u) new bound = (a : Act) × (act_for names l ≡ Ok a) × Does w names l a new bound
PlaysLine w names l (Err (gives.Name f)) new bound = (act_for names l ≡ Err f) × (new ≡ w) × (bound ≡ names)
PlaysLine w names l (Err gives.Memory) new bound = Unit {0}

-- Lines in order.
abbrev pub Plays : Seen → Names → List Line → Seen → Names → Type 0
Plays w names [] new bound = (new ≡ w) × (bound ≡ names)
Plays w names (x ∷ xs) new bound = (mid : Seen) × (now : Names) × PlaysLine w names x (Ok tt) mid now × Plays mid now xs new bound

-- The line with that number, counted from 1, names something that is not there when its turn comes, where those before it
-- led to that.
abbrev pub StopsAt : Seen → Names → List Line → ℕ → NameFault → Seen → Names → Type 0
StopsAt w names lines number f mid now =
    (i : ℕ) × (x : Line)
    × (number ≡ i + 1) × (take (i + 1) lines ≡ take i lines ++ x ∷ []) × Plays w names (take i lines) mid now × (act_for now x ≡ Err f)

abbrev pub IsUnnamedAt : Seen → Names → List Line → ℕ → NameFault → Type 0
IsUnnamedAt w names lines number f = (mid : Seen) × (now : Names) × StopsAt w names lines number f mid now

abbrev pub PlaysAll : Seen → Names → List Line → Result Unit ScriptFault → Seen → Names → Type 0
PlaysAll w names lines (Ok u) new bound = Plays w names lines new bound
PlaysAll w names lines (Err (fault.Unnamed number f)) new bound = StopsAt w names lines number f new bound
PlaysAll w names lines (Err (fault.Line number f)) new bound = ⊥
PlaysAll w names lines (Err fault.NotText) new bound = ⊥
PlaysAll w names lines (Err fault.Memory) new bound = Unit {0}
