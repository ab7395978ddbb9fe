-- The line that ended the work is one of the script's.
use Rattle.std.proofs.Common.{◌≡◌, ◌<◌, ◌+◌, ℕ, true, Option, List, length, take, sym, subst}
use lib.ListN.{get_or}
use Rattle.rpc_msg.specs.declared.ids.Vat.{Vat}
use Rattle.script_language.specs.declared.line.Line.{Line}
use Rattle.script_language.specs.declared.names.Names.{Names}
use Rattle.script_language.specs.Bindings.{no_names}
use Rattle.link_workers.specs.declared.worker_end.WorkerEnd.{WorkerEnd}
use Rattle.link_workers.specs.declared.worker_end.WorkerEnd.TheVariants as ends
use Rattle.link_workers.specs.Playing.{Told, is_of, Plays}
use Rattle.link_workers.specs.Ending.{AtStep, AtLine, IsEnding}
use Rattle.link_workers.proofs.Going.{one_more}

module _ {E : Type 0} (steps : E → Told → E → Type 0) (v : Vat) (lines : List Line) where
  pub ends_there : (old mid new : E) (names : Names) (i : ℕ) (x : Line) (down : Option ℕ) (why : WorkerEnd)
      → i < length lines → x ≡ get_or lines i x → is_of v x ≡ true → Plays steps v old no_names (take i lines) mid names
      → AtLine (i + 1) mid names x new down why → IsEnding steps v lines old new down why
  ends_there old mid new names i x down ends.Done within is own played there = tt
  ends_there old mid new names i x down (ends.Down n) within is own played there = there
  ends_there old mid new names i x down ends.GateNo within is own played there = tt
  ends_there old mid new names i x down (ends.ScriptFault number f) within is own played there =
      record {
        before = i;
        line = x;
        names = names;
        number_is = there.0;
        there = one_more lines i x within is;
        own = own;
        played = subst (λ (e : E). Plays steps v old no_names (take i lines) e names) (sym there.2) played;
        unnamed = there.1;
      }
  ends_there old mid new names i x down ends.Limit within is own played there = tt
  ends_there old mid new names i x down ends.Stopped within is own played there = tt
  ends_there old mid new names i x down ends.Memory within is own played there = tt

  -- A step has no line.
  pub ends_any : (old new : E) (down : Option ℕ) (why : WorkerEnd) → AtStep down why → IsEnding steps v lines old new down why
  ends_any old new down ends.Done there = tt
  ends_any old new down (ends.Down n) there = there
  ends_any old new down ends.GateNo there = tt
  ends_any old new down (ends.ScriptFault number f) there = absurd there
  ends_any old new down ends.Limit there = tt
  ends_any old new down ends.Stopped there = tt
  ends_any old new down ends.Memory there = tt
