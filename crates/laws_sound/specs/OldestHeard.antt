-- In a scene, what a vat receives says what it should, where all that stands on the wires means what it should.
use Rattle.std.specs.Prelude.{◌≡◌, ℕ, Option, None, List, ◌∷◌}
use Rattle.rpc_msg.specs.declared.ids.Vat.{Vat}
use Rattle.rpc_msg.specs.declared.ids.ObjectId.{ObjectId}
use Rattle.rpc_msg.specs.declared.message.Message.{Message}
use Rattle.rpc_msg.specs.Vats.{other_vat}
use Rattle.rpc_journal.specs.Meaning.{History, root}
use Rattle.rpc_machine.specs.Claims.{history, object_number}
use Rattle.rpc_machine.specs.Faults.{fault_of}
use Rattle.rpc_machine.specs.World.{World, core, inbox}
use Rattle.laws_runs.specs.Scenes.{Scene, IsScene}
use Rattle.laws_meanings.specs.NodeMeanings.{Meant}
use Rattle.laws_meanings.specs.NodeLabels.{Labels}
use Rattle.laws_meanings.specs.MessageMeanings.{ImportsKept, IsHeard, with_imports}
use Rattle.laws_wires.specs.Wires.{WorldMeans, export_label}

-- The history has the bootstrap object of each vat.
abbrev pub RootsAreHosted : Type 0
RootsAreHosted = (root_a root_b : Option ObjectId) (x : Scene) (v : Vat) → IsScene root_a root_b x → root (history root_a root_b x.journal) v ≡ object_number (core x.world v).bootstrap

-- What the exports of a vat mean.
abbrev pub exports_mean : History → World → (Vat → Labels) → Vat → ℕ → Option Meant
exports_mean h w l v e = export_label h v (l v) (core w v).exports e

-- The imports that come with a message mean what the other vat exports as them; an import that is there means that already.
abbrev pub OldestAreHeard : Type 0
OldestAreHeard =
    (root_a root_b : Option ObjectId) (x : Scene) (l : Vat → Labels) (v : Vat) (m : Message) (ms : List Message)
    → IsScene root_a root_b x → inbox x.world v ≡ m ∷ ms → fault_of (core x.world v) m ≡ None → WorldMeans (history root_a root_b x.journal) x.world l
    → ImportsKept (l v) (core x.world v) (exports_mean (history root_a root_b x.journal) x.world l (other_vat v))
    × IsHeard (history root_a root_b x.journal) v (with_imports (l v) (exports_mean (history root_a root_b x.journal) x.world l (other_vat v))) (core x.world v) m
