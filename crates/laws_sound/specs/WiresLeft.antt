-- What is known of two vats and of what is on its way between them as one takes a step, and what the step has to leave.
use Rattle.std.specs.Prelude.{◌≡◌, ℕ, None, List, [], ◌∷◌}
use Rattle.finite_maps.specs.Tally.{Map}
use Rattle.rpc_msg.specs.declared.ids.Vat.{Vat}
use Rattle.rpc_msg.specs.declared.message.Message.{Message}
use Rattle.rpc_msg.specs.declared.message.Message.TheVariants as message
use Rattle.rpc_msg.specs.declared.message.PlainMessage.{PlainMessage}
use Rattle.rpc_msg.specs.Messages.{descriptors_of}
use Rattle.rpc_journal.specs.Meaning.{History}
use Rattle.rpc_machine.specs.declared.command.Command.{Command}
use Rattle.rpc_machine.specs.declared.command.Effects.{Effects}
use Rattle.rpc_machine.specs.declared.command.Granted.{Granted}
use Rattle.rpc_machine.specs.declared.command.Level.TheVariants.{One}
use Rattle.rpc_machine.specs.declared.entries.Export.{Export}
use Rattle.rpc_machine.specs.State.{State}
use Rattle.rpc_machine.specs.Faults.{fault_of}
use Rattle.rpc_machine.specs.Refusals.{refused}
use Rattle.rpc_machine.specs.Steps.{Does, Handles}
use Rattle.laws_acts.specs.Moments.{Moment, beginning}
use Rattle.laws_acts.specs.FirstActs.{Starts}
use Rattle.laws_acts.specs.MessageActs.{Consumes}
use Rattle.laws_routes.specs.Midway.{Midway}
use Rattle.laws_routes.specs.Received.{IsMet}
use Rattle.laws_routes.specs.Sayings.{has_of}
use Rattle.laws_steps.specs.NodesThere.{IsReached}
use Rattle.laws_runs.specs.Views.{IsReady}
use Rattle.laws_meanings.specs.FitCores.{IsFit}
use Rattle.laws_meanings.specs.MessageMeanings.{AnswersOf}
use Rattle.laws_wires.specs.SceneWires.{has_taken}
use Rattle.laws_wires.specs.StepWires.{Around, BackIsMet, NamedAreKept, OnTheWay, OutIsMet}
use Rattle.laws_wires.specs.Wires.{WiresMean, export_label, past_one, sessions_at}
use Rattle.laws_sound.specs.StepsInScenes.{HasStepped}

-- Before the step, of its vat and of the other one, with what is on its way to each.
pub record AreBeside (w : Around) (out back : List Message) : Type 0 where
  pub midway : Midway w.s w.z out back
  pub midway_back : Midway w.z w.s back out
  pub fit : IsFit w.v w.s
  pub fit_other : IsFit w.u w.z
  pub reached : IsReached w.s
  pub reached_other : IsReached w.z
  pub ready : IsReady w.s
  pub ready_other : IsReady w.z
  pub level : w.s.level ≡ One
  pub level_other : w.z.level ≡ One

-- What is on its way as the vat takes a command, and behind the message that it takes.
abbrev pub at_command : Around → List Message → List Message → OnTheWay
at_command w out back = record { out = out; back = back; has = has_of [] w.s.imports w.s.questions; now = sessions_at w.l w.s.answers }

abbrev pub behind_message : Around → List Message → PlainMessage → List Message → OnTheWay
behind_message w out p rest = record { out = out; back = rest; has = has_taken w.s (descriptors_of (message.Plain p)); now = past_one w.u (sessions_at w.l w.s.answers) (message.Plain p) }

-- What the step leaves of it, and what it sends.
pub record LeavesWires (h : History) (w : Around) (x : OnTheWay) (told : Effects) : Type 0 where
  pub kept : Map Export
  pub named : NamedAreKept h w x kept
  pub back : BackIsMet w x
  pub out : OutIsMet h w x.out told.sends

-- A command leaves that, and so does a message that is taken, where the wires mean before it what they should.
abbrev pub CommandsLeaveWires : Type 0
CommandsLeaveWires =
    (h : History) (w : Around) (out back : List Message) (c : Command) (g : Granted) (told : Effects) (d : Moment)
    → AreBeside w out back → WiresMean h w.v w.s w.l w.u w.z w.k out → WiresMean h w.u w.z w.k w.v w.s w.l back
    → refused w.s c ≡ None → Does w.s c g told w.t → Starts (beginning w.s) c g d → ((e : ℕ) → w.m.import e ≡ w.l.import e)
    → HasStepped h w.v w.l w.s d.state (sessions_at w.l w.s.answers) told w.t w.m
    → LeavesWires h w (at_command w out back) told

abbrev pub MessagesLeaveWires : Type 0
MessagesLeaveWires =
    (h : History) (w : Around) (out rest : List Message) (p : PlainMessage) (told : Effects) (d : Moment)
    → AreBeside w out (message.Plain p ∷ rest) → IsMet w.s w.z out rest p → WiresMean h w.v w.s w.l w.u w.z w.k out → WiresMean h w.u w.z w.k w.v w.s w.l (message.Plain p ∷ rest)
    → fault_of w.s (message.Plain p) ≡ None → Handles w.s (message.Plain p) told w.t → Consumes (beginning w.s) (message.Plain p) d
    → ((e : ℕ) → w.m.import e ≡ export_label h w.u w.k w.z.exports e) → AnswersOf w.m.outcome w.u d.state (message.Plain p)
    → HasStepped h w.v w.l w.s d.state (past_one w.u (sessions_at w.l w.s.answers) (message.Plain p)) told w.t w.m
    → LeavesWires h w (behind_message w out p rest) told
