-- The world of a scene is one to which steady steps lead, and one to which a run leads.
use Rattle.std.proofs.Common.{◌≡◌, ◌↔◌, ℕ, ◌<◌, IsSome, List, Option, sym, ap, subst}
use Rattle.std.specs.FinMap as map
use Rattle.rpc_msg.specs.declared.ids.Vat.{Vat}
use Rattle.rpc_msg.specs.declared.ids.Vat.TheVariants.{A, B}
use Rattle.rpc_msg.specs.declared.ids.ObjectId.{ObjectId}
use Rattle.rpc_journal.specs.declared.entry.JournalEntry.{JournalEntry}
use Rattle.rpc_machine.specs.Nodes.{is_import}
use Rattle.rpc_machine.specs.Places.{names}
use Rattle.rpc_machine.specs.World.{World, new_world, core}
use Rattle.rpc_machine.specs.Journal.{journal}
use Rattle.rpc_machine.specs.Claims.{CountsAgree}
use Rattle.laws_steps.specs.NodesThere.{NodesThereInRuns, IsWhole}
use Rattle.laws_runs.specs.Scenes as scenes
use Rattle.laws_runs.specs.Scenes.{Scene, IsScene, LeadsTo, stopped, Commanded, Received, GivesUp, NoMore, Then}
use Rattle.laws_runs.specs.Shown.{EveryRunIsShown, ShowsBothUp, ScenesAreReached}
use Rattle.laws_runs.specs.Between.{Steady, Stays, OneMore, Commands, Receives}
use Rattle.laws_runs.specs.Agreed.{CountsAgreeInSteadyWorlds}
use Rattle.laws_runs.specs.SceneSessions.{InScenes, CountsOfRuns}

world_stays : (x new : Scene) (v : Vat) (es : List JournalEntry) → new ≡ stopped x v es → new.world ≡ x.world
world_stays x new A es e = ap (λ (y : Scene). y.world) e
world_stays x new B es e = ap (λ (y : Scene). y.world) e

steps : (last : World) (x mid : Scene) → scenes.Steps x mid → Steady last mid.world → Steady last x.world
steps last x mid (Commanded v c g effects s o up r h w e) rest = OneMore (Commands v c g effects s r h (ap (λ (y : Scene). y.world) e)) rest
steps last x mid (Received v m ms effects s o up i f h w e) rest = OneMore (Receives v m ms effects s i f h (ap (λ (y : Scene). y.world) e)) rest
steps last x mid (GivesUp v c o r m e) rest = subst (λ (w : World). Steady last w) (world_stays x mid v _ e) rest
steps last x mid (scenes.Stops v o e) rest = subst (λ (w : World). Steady last w) (world_stays x mid v _ e) rest

leads : (last x : Scene) → LeadsTo last x → Steady last.world x.world
leads last x NoMore = Stays
leads last x (Then {mid = mid} s rest) = steps last.world x mid s (leads last mid rest)

pub steady : (a b : Option ObjectId) (x : Scene) → IsScene a b x → Steady x.world (new_world a b)
steady a b x h = leads x (scenes.begins a b) h

named : (w : World) (v : Vat) (e : ℕ) → IsWhole w.a.core × IsWhole w.b.core → IsSome (map.get (core w v).imports e) ↔ 0 < names (core w v) (is_import e)
named w A e h = h.0.imports e
named w B e h = h.1.imports e

pub agree : NodesThereInRuns → ScenesAreReached → CountsAgreeInSteadyWorlds → (a b : Option ObjectId) (x : Scene) → IsScene a b x → CountsAgree x.world
agree there reached counts a b x h up v e =
    let r = reached a b x h in
    record { count = counts a b x.world (steady a b x h) v e; named = named x.world v e (there a b r.0 x.world r.1) }

pub in_runs : EveryRunIsShown → ShowsBothUp → InScenes CountsAgree → CountsOfRuns
in_runs shown both counts a b xs w k up =
    let r = shown a b xs w k in
    let same : w ≡ r.0.world = both r.0 (journal xs) w r.2 up in
    subst (λ (u : World). CountsAgree u) (sym same) (counts a b r.0 r.1) up
