-- How the work of one vat of a pair ends (docs/script.md, "Two threads").
use Rattle.std.specs.Prelude.{ℕ, ◌≡◌, ◌+◌, true, Option, None, Some, Err, List, [], ◌∷◌, ◌++◌, take}
use Rattle.rpc_msg.specs.declared.ids.Vat.{Vat}
use Rattle.script_language.specs.declared.fault.NameFault.{NameFault}
use Rattle.script_language.specs.declared.line.Line.{Line}
use Rattle.script_language.specs.declared.names.Names.{Names}
use Rattle.script_language.specs.Acting.{act_for}
use Rattle.script_language.specs.Bindings.{no_names}
use Rattle.link_workers.specs.declared.worker_end.WorkerEnd.{WorkerEnd}
use Rattle.link_workers.specs.declared.worker_end.WorkerEnd.TheVariants as ends
use Rattle.link_workers.specs.Playing.{Told, is_of, Plays}

-- What the number of a vat says of it: it is down, with that number.
abbrev pub AtStep : Option ℕ → WorkerEnd → Type 0
AtStep down ends.Done = Unit {0}
AtStep down (ends.Down n) = down ≡ Some n
AtStep down ends.GateNo = Unit {0}
AtStep down (ends.ScriptFault number f) = ⊥
AtStep down ends.Limit = Unit {0}
AtStep down ends.Stopped = Unit {0}
AtStep down ends.Memory = Unit {0}

module _ {E : Type 0} where
  -- The same where the line with that number was played: by these names it names something that is not there, and that is the
  -- fault; the end stays.
  abbrev pub AtLine : ℕ → E → Names → Line → E → Option ℕ → WorkerEnd → Type 0
  AtLine at old names line new down ends.Done = Unit {0}
  AtLine at old names line new down (ends.Down n) = down ≡ Some n
  AtLine at old names line new down ends.GateNo = Unit {0}
  AtLine at old names line new down (ends.ScriptFault number f) = (number ≡ at) × (act_for names line ≡ Err f) × (new ≡ old)
  AtLine at old names line new down ends.Limit = Unit {0}
  AtLine at old names line new down ends.Stopped = Unit {0}
  AtLine at old names line new down ends.Memory = Unit {0}

module _ {E : Type 0} (steps : E → Told → E → Type 0) where
  -- The line with that number, counted from 1, is one of the vat's, and names something that is not there when its turn comes:
  -- where the vat's lines before it were played, from no names on. That is the fault.
  pub record IsFaultAt (v : Vat) (lines : List Line) (old : E) (number : ℕ) (f : NameFault) (new : E) : Type 0 where
    pub before : ℕ
    pub line : Line
    pub names : Names
    pub number_is : number ≡ before + 1
    pub there : take (before + 1) lines ≡ take before lines ++ line ∷ []
    pub own : is_of v line ≡ true
    pub played : Plays steps v old no_names (take before lines) new names
    pub unnamed : act_for names line ≡ Err f

  -- What the end of the work says of the vat and of the lines: that it is down with that number; that this line is at fault.
  abbrev pub IsEnding : Vat → List Line → E → E → Option ℕ → WorkerEnd → Type 0
  IsEnding v lines old new down ends.Done = Unit {0}
  IsEnding v lines old new down (ends.Down n) = down ≡ Some n
  IsEnding v lines old new down ends.GateNo = Unit {0}
  IsEnding v lines old new down (ends.ScriptFault number f) = IsFaultAt v lines old number f new
  IsEnding v lines old new down ends.Limit = Unit {0}
  IsEnding v lines old new down ends.Stopped = Unit {0}
  IsEnding v lines old new down ends.Memory = Unit {0}

  -- What a thread gives back: the end that it was given, worked so, or as it was where it was told not to.
  abbrev pub IsBack : (E → E → Type 0) → (E → Option ℕ) → Vat → List Line → E → E → Option WorkerEnd → Type 0
  IsBack same down v lines old new None = new ≡ old
  IsBack same down v lines old new (Some why) = same old new × IsEnding v lines old new (down new) why
