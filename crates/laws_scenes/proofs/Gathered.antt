-- What is known of each scene, gathered from the laws of scenes.
use Rattle.std.proofs.Common.{◌≡◌, Option}
use Rattle.rpc_msg.specs.declared.ids.ObjectId.{ObjectId}
use Rattle.rpc_msg.specs.declared.ids.Vat.{Vat}
use Rattle.rpc_msg.specs.declared.ids.Vat.TheVariants.{A, B}
use Rattle.rpc_machine.specs.declared.command.Level.TheVariants.{One}
use Rattle.rpc_machine.specs.World.{core}
use Rattle.laws_steps.specs.NodesThere.{IsWhole, NodesThereInRuns}
use Rattle.laws_runs.specs.Scenes.{Scene, IsScene}
use Rattle.laws_runs.specs.Shown.{ScenesAreReached}
use Rattle.laws_runs.specs.SceneSessions.{CountsOfScenes}
use Rattle.laws_scenes.specs.Meeting.{AcrossInScenes, OldestAreMet}
use Rattle.laws_scenes.specs.Canceled.{CanceledWereGivenUp}
use Rattle.laws_scenes.proofs.Walking.{Facts}

pub facts_of : AcrossInScenes → NodesThereInRuns → ScenesAreReached → CountsOfScenes → OldestAreMet → CanceledWereGivenUp → (root_a root_b : Option ObjectId) (x : Scene) → IsScene root_a root_b x → Facts x.world
facts_of across there reached counts met given_up a b x h =
    let r = reached a b x h in
    let both = there a b r.0 x.world r.1 in
    let k = counts.sessions a b x h in
    let stand = k.holds in
    record {
      across = across a b x h;
      whole = whole_of x both;
      level = level_of x stand.ready_s.level stand.ready_t.level;
      plain = λ v m ms e. (let p = counts.oldest a b x h v m ms e in (p.0, p.1));
      met = met a b x h;
      given_up = given_up a b x h;
    }
  where
    whole_of : (x : Scene) → IsWhole x.world.a.core × IsWhole x.world.b.core → (v : Vat) → IsWhole (core x.world v)
    whole_of x h A = h.0
    whole_of x h B = h.1

    level_of : (x : Scene) → x.world.a.core.level ≡ One → x.world.b.core.level ≡ One → (v : Vat) → (core x.world v).level ≡ One
    level_of x h k A = h
    level_of x h k B = k
