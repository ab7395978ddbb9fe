-- Where no message is refused in scenes, each fall of a run is by a shut, for want of room, for the limit of waiting calls
-- or by the other vat's Abort.
use Rattle.std.proofs.Common.{List, [], Option, sym, subst, ◌∙◌}
use Rattle.rpc_msg.specs.declared.ids.ObjectId.{ObjectId}
use Rattle.rpc_journal.specs.declared.entry.JournalEntry.{JournalEntry}
use Rattle.rpc_machine.specs.World.{new_world, shut_number}
use Rattle.rpc_machine.specs.Journal.{journal}
use Rattle.rpc_machine.specs.Claims.{EveryRun, FallsAreKnown, history}
use Rattle.laws_runs.specs.Scenes.{Scene, IsScene}
use Rattle.laws_runs.specs.SoundScenes.{OldestAreTaken}
use Rattle.laws_runs.proofs.FallEntries.{Fine, upto_falls}
use Rattle.laws_runs.proofs.WhoIsDown.{SaysDown, shut_so}
use Rattle.laws_runs.proofs.FallsInRuns.{whole_run}

pub falls : ((a b : Option ObjectId) (x : Scene) → IsScene a b x → OldestAreTaken x) → EveryRun (λ h xs w. FallsAreKnown xs h)
falls every a b xs w k =
    let r = whole_run a b (every a b) xs w k in
    let e = r.1 in
    let says = subst (λ (h : List JournalEntry). SaysDown w h) (sym e) r.3 in
    record {
      falls = upto_falls xs (history a b (journal xs)) (subst (λ (h : List JournalEntry). Fine (λ v. shut_number v xs) [] h) (sym e) r.2);
      shuts = λ v f. says v ∙ shut_so (new_world a b) xs w v k f;
    }
