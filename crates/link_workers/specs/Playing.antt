-- What a worker does for the lines of its vat, and what their names stand for then (docs/script.md, "Names" and "Two threads").
use Rattle.std.specs.Prelude.{ℕ, zero, suc, ◌≡◌, Bool, true, false, Option, None, Some, Result, Ok, Err, List, [], ◌∷◌}
use Rattle.rpc_msg.specs.declared.ids.Vat.{Vat}
use Rattle.rpc_journal.specs.History.{same_vat}
use Rattle.rpc_machine.specs.declared.command.Command.{Command}
use Rattle.rpc_machine.specs.declared.command.Granted.{Granted}
use Rattle.rpc_machine.specs.declared.command.Effects.{Effects}
use Rattle.rpc_machine.specs.declared.command.Refusal.{Refusal}
use Rattle.rpc_machine.specs.declared.event.Event.TheVariants as event
use Rattle.script_language.specs.declared.act.Act.{Act}
use Rattle.script_language.specs.declared.act.Act.TheVariants as act
use Rattle.script_language.specs.declared.line.Line.{Line}
use Rattle.script_language.specs.declared.line.Line.TheVariants as line
use Rattle.script_language.specs.declared.line.LineCommand.{LineCommand}
use Rattle.script_language.specs.declared.names.Names.{Names}
use Rattle.script_language.specs.Acting.{act_for, command_in}
use Rattle.script_language.specs.Bindings.{names_of, with_names_of, bind_reference, binds, handed}

-- What the end of a vat is asked to do, and what it answers.
pub data Told : Type 0 where
  Commanded : Command → Result (Granted × Effects) Refusal → Told
  Turned : Result (Option Effects) ℕ → Told
  Flushed : Told

-- ---- The lines of a vat

abbrev pub is_of : Vat → Line → Bool
is_of v line.Skip = false
is_of v (line.Deliver u) = same_vat u v
is_of v (line.Turn u) = same_vat u v
is_of v line.Tables = false
is_of v (line.Take u l) = same_vat u v
is_of v (line.Got u l) = same_vat u v
is_of v (line.Command u said) = same_vat u v

-- ---- What the names are told

-- The names that a line gives are bound to what its command was granted.
abbrev pub bound : Names → Vat → Option LineCommand → Granted → Names
bound names v None granted = names
bound names v (Some said) granted = binds names v said granted

-- A refused command binds nothing.
abbrev pub answered : Names → Vat → Option LineCommand → Result (Granted × Effects) Refusal → Names
answered names v said (Ok done) = handed (bound names v said done.0) v done.1
answered names v said (Err why) = names

-- A turn that finds no frame tells nothing.
abbrev pub turned : Names → Vat → Option Effects → Names
turned names v None = names
turned names v (Some effects) = handed names v effects

-- ---- What is done at an end, step by step

module _ {E : Type 0} (steps : E → Told → E → Type 0) where
  -- The end obeys a command.
  pub record Answers (v : Vat) (old : E) (names : Names) (said : Option LineCommand) (c : Command) (new : E) (now : Names) : Type 0 where
    pub answer : Result (Granted × Effects) Refusal
    pub commanded : steps old (Commanded c answer) new
    pub names_are : now ≡ answered names v said answer

  -- The end obeys a command, and what waits is sent.
  pub record Obeys (v : Vat) (old : E) (names : Names) (said : Option LineCommand) (c : Command) (new : E) (now : Names) : Type 0 where
    pub mid : E
    pub answers : Answers v old names said c mid now
    pub flushed : steps mid Flushed new

  -- The end takes a turn, which found a frame or did not, and what waits is sent.
  pub record Turns (v : Vat) (old : E) (names : Names) (effects : Option Effects) (new : E) (now : Names) : Type 0 where
    pub mid : E
    pub took : steps old (Turned (Ok effects)) mid
    pub flushed : steps mid Flushed new
    pub names_are : now ≡ turned names v effects

  abbrev pub TurnsIf : Vat → Bool → E → Names → E → Names → Type 0
  TurnsIf v true old names new now = (effects : Effects) × Turns v old names (Some effects) new now
  TurnsIf v false old names new now = Turns v old names None new now

  -- So many turns find no frame.
  abbrev pub Idles : Vat → E → Names → ℕ → E → Names → Type 0
  Idles v old names zero new now = (new ≡ old) × (now ≡ names)
  Idles v old names (suc n) new now = (mid : E) × (between : Names) × Idles v old names n mid between × Turns v mid between None new now

  -- Turns are taken until one takes a frame.
  pub record TakesFrame (v : Vat) (old : E) (names : Names) (new : E) (now : Names) : Type 0 where
    pub count : ℕ
    pub mid : E
    pub between : Names
    pub effects : Effects
    pub idles : Idles v old names count mid between
    pub takes : Turns v mid between (Some effects) new now

  -- What a line does. A script for two threads has no line that delivers, and none of counts.
  abbrev pub Does : Vat → E → Names → Line → Act → E → Names → Type 0
  Does v old names l act.Nothing new now = (new ≡ old) × (now ≡ names)
  Does v old names l act.Tables new now = (new ≡ old) × (now ≡ names)
  Does v old names l (act.Turn u) new now = TakesFrame v old names new now
  Does v old names l (act.Name u name r) new now = (new ≡ old) × (now ≡ with_names_of u (bind_reference (names_of u names) (Some name) r) names)
  Does v old names l (act.Happens (event.Command u c)) new now = Obeys v old names (command_in l) c new now
  Does v old names l (act.Happens (event.Deliver u)) new now = (new ≡ old) × (now ≡ names)

  -- A line of the vat is played: all that it names is there. Other lines are left.
  abbrev pub PlaysLine : Bool → Vat → E → Names → Line → E → Names → Type 0
  PlaysLine true v old names l new now = (a : Act) × (act_for names l ≡ Ok a) × Does v old names l a new now
  PlaysLine false v old names l new now = (new ≡ old) × (now ≡ names)

  -- The lines of the vat among these are played, in order.
  abbrev pub Plays : Vat → E → Names → List Line → E → Names → Type 0
  Plays v old names [] new now = (new ≡ old) × (now ≡ names)
  Plays v old names (l ∷ ls) new now = (mid : E) × (between : Names) × PlaysLine (is_of v l) v old names l mid between × Plays v mid between ls new now
