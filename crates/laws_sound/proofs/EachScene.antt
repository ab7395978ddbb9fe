-- From step to step, in each scene all means what it should.
use Rattle.std.proofs.Common.{Option, List, [], sym, subst}
use Rattle.rpc_msg.specs.declared.ids.Vat.{Vat}
use Rattle.rpc_msg.specs.declared.ids.Vat.TheVariants.{A, B}
use Rattle.rpc_msg.specs.declared.ids.ObjectId.{ObjectId}
use Rattle.rpc_msg.specs.Vats.{other_vat}
use Rattle.rpc_journal.specs.declared.entry.JournalEntry.{JournalEntry}
use Rattle.rpc_journal.specs.Meaning.{History}
use Rattle.rpc_machine.specs.declared.command.Granted.TheVariants as granted
use Rattle.rpc_machine.specs.Claims.{history}
use Rattle.rpc_machine.specs.Journal.{granted_entries}
use Rattle.rpc_machine.specs.Progress.{quiet}
use Rattle.rpc_machine.specs.World.{World, core, inbox}
use Rattle.laws_runs.specs.Meanings.{with_more}
use Rattle.laws_runs.specs.Scenes as scenes
use Rattle.laws_runs.specs.Scenes.{Scene}
use Rattle.laws_meanings.specs.LastingMeanings.{PlacesLast}
use Rattle.laws_meanings.specs.NodeLabels.{Labels}
use Rattle.laws_meanings.proofs.Walked.{in_each}
use Rattle.laws_wires.specs.StepWires.{WiresLive}
use Rattle.laws_wires.specs.WireLaws.{NewVatsMean, unlabelled}
use Rattle.laws_wires.specs.Wires.{WorldMeans}
use Rattle.laws_sound.specs.ScenesMean.{Means, MeaningsAreKept, ScenesMean}

module _ (places : PlacesLast) (wires : WiresLive) where
  pub world_lasts : (h : History) (more : List JournalEntry) (w : World) (l : Vat → Labels) → WorldMeans h w l → WorldMeans (with_more h more) w l
  world_lasts h more w l i = record {
    places = λ v. places h more v (l v) quiet (core w v) (i.places v);
    wires = λ v. wires h more v (core w v) (l v) (other_vat v) (core w (other_vat v)) (l (other_vat v)) (inbox w (other_vat v)) (i.wires v);
  }

  stays : (a b : Option ObjectId) (x : Scene) (v : Vat) (es : List JournalEntry) → Means a b x → Means a b (scenes.stopped x v es)
  stays a b x A es i = (i.0, world_lasts (history a b x.journal) es x.world i.0 i.1)
  stays a b x B es i = (i.0, world_lasts (history a b x.journal) es x.world i.0 i.1)

  pub scenes_mean : NewVatsMean → MeaningsAreKept → ScenesMean
  scenes_mean new keeps a b x k = in_each a b (Means a b) stepped ((λ v. unlabelled), new (history a b []) a b) x k
    where
      stepped : (x mid : Scene) → scenes.IsScene a b x → scenes.Steps x mid → Means a b x → Means a b mid
      stepped x mid j (scenes.Commanded v c g told s o up r d w e) i = keeps a b x mid (scenes.Commanded v c g told s o up r d w e) tt j i
      stepped x mid j (scenes.Received v m ms told s o up p f d w e) i = keeps a b x mid (scenes.Received v m ms told s o up p f d w e) tt j i
      stepped x mid j (scenes.GivesUp v c o r f e) i = subst (Means a b) (sym e) (stays a b x v (granted_entries x.journal v c granted.Done) i)
      stepped x mid j (scenes.Stops v o e) i = subst (Means a b) (sym e) (stays a b x v [] i)
