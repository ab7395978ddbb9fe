-- The wires behind a step in a scene.
use Rattle.std.specs.Prelude.{◌≡◌, ℕ, false, None, Option, List, [], ◌∷◌, ◌++◌}
use Rattle.rpc_msg.specs.declared.ids.Vat.{Vat}
use Rattle.rpc_msg.specs.declared.ids.ObjectId.{ObjectId}
use Rattle.rpc_msg.specs.declared.message.Message.{Message}
use Rattle.rpc_msg.specs.Vats.{other_vat}
use Rattle.rpc_journal.specs.declared.entry.JournalEntry.TheVariants as entry
use Rattle.rpc_journal.specs.Meaning.{History}
use Rattle.rpc_machine.specs.declared.command.Command.{Command}
use Rattle.rpc_machine.specs.declared.command.Effects.{Effects}
use Rattle.rpc_machine.specs.declared.command.Granted.{Granted}
use Rattle.rpc_machine.specs.State.{State}
use Rattle.rpc_machine.specs.Claims.{history}
use Rattle.rpc_machine.specs.Faults.{fault_of}
use Rattle.rpc_machine.specs.Journal.{granted_entries}
use Rattle.rpc_machine.specs.Refusals.{refused}
use Rattle.rpc_machine.specs.Steps.{Does, Handles}
use Rattle.rpc_machine.specs.World.{World, core, inbox}
use Rattle.laws_acts.specs.Moments.{Moment, beginning}
use Rattle.laws_acts.specs.FirstActs.{Starts}
use Rattle.laws_acts.specs.MessageActs.{Consumes}
use Rattle.laws_runs.specs.Scenes.{Scene, IsScene, is_over}
use Rattle.laws_meanings.specs.MessageMeanings.{AnswersOf}
use Rattle.laws_meanings.specs.NodeLabels.{Labels}
use Rattle.laws_wires.specs.Wires.{WiresMean, WorldMeans, past_one, sessions_at}
use Rattle.laws_sound.specs.OldestHeard.{exports_mean}
use Rattle.laws_sound.specs.StepsInScenes.{HasStepped}

-- Of the vat v, now in the state t with the labels m, and the other, which is as it was: the wires between them, with these
-- messages on their way.
abbrev pub BothMean : History → World → (Vat → Labels) → (v : Vat) → State → Labels → (out back : List Message) → Type 0
BothMean h w l v t m out back = WiresMean h v t m (other_vat v) (core w (other_vat v)) (l (other_vat v)) out × WiresMean h (other_vat v) (core w (other_vat v)) (l (other_vat v)) v t m back

-- By the history with the step's own entry the wires mean behind a step what they should, where what its vat holds and sends does.
abbrev pub CommandsKeepWires : Option ObjectId → Option ObjectId → Type 0
CommandsKeepWires root_a root_b =
    (x : Scene) (l : Vat → Labels) (v : Vat) (c : Command) (g : Granted) (told : Effects) (t : State) (m : Labels) (d : Moment)
    → IsScene root_a root_b x → WorldMeans (history root_a root_b x.journal) x.world l → is_over x v ≡ false → refused (core x.world v) c ≡ None → Does (core x.world v) c g told t → Starts (beginning (core x.world v)) c g d
    → ((e : ℕ) → m.import e ≡ (l v).import e)
    → HasStepped (history root_a root_b (x.journal ++ granted_entries x.journal v c g)) v (l v) (core x.world v) d.state (sessions_at (l v) (core x.world v).answers) told t m
    → BothMean (history root_a root_b (x.journal ++ granted_entries x.journal v c g)) x.world l v t m (inbox x.world (other_vat v) ++ told.sends) (inbox x.world v)

abbrev pub MessagesKeepWires : Option ObjectId → Option ObjectId → Type 0
MessagesKeepWires root_a root_b =
    (x : Scene) (l : Vat → Labels) (v : Vat) (y : Message) (ms : List Message) (told : Effects) (t : State) (m : Labels) (d : Moment)
    → IsScene root_a root_b x → WorldMeans (history root_a root_b x.journal) x.world l → inbox x.world v ≡ y ∷ ms → fault_of (core x.world v) y ≡ None → Handles (core x.world v) y told t → Consumes (beginning (core x.world v)) y d
    → ((e : ℕ) → m.import e ≡ exports_mean (history root_a root_b x.journal) x.world l (other_vat v) e) → AnswersOf m.outcome (other_vat v) d.state y
    → HasStepped (history root_a root_b (x.journal ++ entry.Got v ∷ [])) v (l v) (core x.world v) d.state (past_one (other_vat v) (sessions_at (l v) (core x.world v).answers) y) told t m
    → BothMean (history root_a root_b (x.journal ++ entry.Got v ∷ [])) x.world l v t m (inbox x.world (other_vat v) ++ told.sends) ms

-- So it is behind each step.
pub record WiresAreKept (root_a root_b : Option ObjectId) : Type 0 where
  pub commands : CommandsKeepWires root_a root_b
  pub messages : MessagesKeepWires root_a root_b

abbrev pub WiresAreKeptInScenes : Type 0
WiresAreKeptInScenes = (root_a root_b : Option ObjectId) → WiresAreKept root_a root_b
