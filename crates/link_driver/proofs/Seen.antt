-- What was done at ends, seen at what contracts see of them.
use Rattle.std.proofs.Common.{ℕ, zero, suc, Bool, true, false, Option, None, Some, Ok, List, [], ◌∷◌, take, ap}
use Rattle.rpc_msg.specs.declared.ids.Vat.{Vat}
use Rattle.rpc_machine.specs.declared.command.Command.{Command}
use Rattle.rpc_machine.specs.declared.command.Effects.{Effects}
use Rattle.rpc_machine.specs.declared.event.Event.TheVariants as event
use Rattle.script_language.specs.declared.act.Act.{Act}
use Rattle.script_language.specs.declared.act.Act.TheVariants as act
use Rattle.script_language.specs.declared.line.Line.{Line}
use Rattle.script_language.specs.declared.line.LineCommand.{LineCommand}
use Rattle.script_language.specs.declared.names.Names.{Names}
use Rattle.script_language.specs.Acting.{command_in}
use Rattle.script_language.specs.Bindings.{no_names}
use Rattle.link_workers.specs.declared.worker_end.WorkerEnd.{WorkerEnd}
use Rattle.link_workers.specs.declared.worker_end.WorkerEnd.TheVariants as why
use Rattle.link_workers.specs.Playing.{Told, Commanded, Turned, Flushed, is_of, Obeys, Turns, Idles, TakesFrame, Does, PlaysLine, Plays}
use Rattle.link_workers.specs.Ending.{IsEnding}

module _ {E F : Type 0} (by : E → Told → E → Type 0) (steps : F → Told → F → Type 0) (seen : E → F) (is_step : (x y : E) (told : Told) → by x told y → steps (seen x) told (seen y)) (v : Vat) where
  turns : (old : E) (names : Names) (effects : Option Effects) (new : E) (now : Names)
      → Turns by v old names effects new now → Turns steps v (seen old) names effects (seen new) now
  turns old names effects new now t = record { mid = seen t.mid; took = is_step old t.mid (Turned (Ok effects)) t.took; flushed = is_step t.mid new Flushed t.flushed; names_are = t.names_are }

  idles : (old : E) (names : Names) (n : ℕ) (new : E) (now : Names) → Idles by v old names n new now → Idles steps v (seen old) names n (seen new) now
  idles old names zero new now h = (ap seen h.0, h.1)
  idles old names (suc n) new now h = (seen h.0, h.1, idles old names n h.0 h.1 h.2, turns h.0 h.1 None new now h.3)

  takes : (old : E) (names : Names) (new : E) (now : Names) → TakesFrame by v old names new now → TakesFrame steps v (seen old) names (seen new) now
  takes old names new now h =
      record {
        count = h.count;
        mid = seen h.mid;
        between = h.between;
        effects = h.effects;
        idles = idles old names h.count h.mid h.between h.idles;
        takes = turns h.mid h.between (Some h.effects) new now h.takes;
      }

  obeys : (old : E) (names : Names) (said : Option LineCommand) (c : Command) (new : E) (now : Names)
      → Obeys by v old names said c new now → Obeys steps v (seen old) names said c (seen new) now
  obeys old names said c new now h =
      record {
        mid = seen h.mid;
        answers = record { answer = h.answers.answer; commanded = is_step old h.mid (Commanded c h.answers.answer) h.answers.commanded; names_are = h.answers.names_are };
        flushed = is_step h.mid new Flushed h.flushed;
      }

  does : (old : E) (names : Names) (l : Line) (a : Act) (new : E) (now : Names) → Does by v old names l a new now → Does steps v (seen old) names l a (seen new) now
  does old names l act.Nothing new now h = (ap seen h.0, h.1)
  does old names l act.Tables new now h = (ap seen h.0, h.1)
  does old names l (act.Turn u) new now h = takes old names new now h
  does old names l (act.Name u name r) new now h = (ap seen h.0, h.1)
  does old names l (act.Happens (event.Command u c)) new now h = obeys old names (command_in l) c new now h
  does old names l (act.Happens (event.Deliver u)) new now h = (ap seen h.0, h.1)

  plays_line : (own : Bool) (old : E) (names : Names) (l : Line) (new : E) (now : Names)
      → PlaysLine by own v old names l new now → PlaysLine steps own v (seen old) names l (seen new) now
  plays_line true old names l new now h = (h.0, h.1, does old names l h.0 new now h.2)
  plays_line false old names l new now h = (ap seen h.0, h.1)

  plays : (old : E) (names : Names) (ls : List Line) (new : E) (now : Names) → Plays by v old names ls new now → Plays steps v (seen old) names ls (seen new) now
  plays old names [] new now h = (ap seen h.0, h.1)
  plays old names (l ∷ ls) new now h = (seen h.0, h.1, plays_line (is_of v l) old names l h.0 h.1 h.2, plays h.0 h.1 ls new now h.3)

  ended : (lines : List Line) (old new : E) (down : Option ℕ) (e : WorkerEnd)
      → IsEnding by v lines old new down e → IsEnding steps v lines (seen old) (seen new) down e
  ended lines old new down why.Done h = tt
  ended lines old new down (why.Down n) h = h
  ended lines old new down why.GateNo h = tt
  ended lines old new down (why.ScriptFault number f) h =
      record {
        before = h.before;
        line = h.line;
        names = h.names;
        number_is = h.number_is;
        there = h.there;
        own = h.own;
        played = plays old no_names (take h.before lines) new h.names h.played;
        unnamed = h.unnamed;
      }
  ended lines old new down why.Limit h = tt
  ended lines old new down why.Stopped h = tt
  ended lines old new down why.Memory h = tt

-- How the work of an end ended is said of what is seen of it.
pub ending_seen : {E F : Type 0} {by : E → Told → E → Type 0} (v : Vat) (lines : List Line) (old new : E) (down : Option ℕ) (e : WorkerEnd)
    → IsEnding by v lines old new down e
    → (seen : E → F) (steps : F → Told → F → Type 0) → ((x y : E) (told : Told) → by x told y → steps (seen x) told (seen y))
    → IsEnding steps v lines (seen old) (seen new) down e
ending_seen {by = by} v lines old new down e h seen steps is_step = ended by steps seen is_step v lines old new down e h
