-- What laws of a command's first act want of a vat's core: in each scene it is so.
use Rattle.std.specs.Prelude.{◌≡◌, Option}
use Rattle.rpc_msg.specs.declared.ids.Vat.{Vat}
use Rattle.rpc_msg.specs.declared.ids.ObjectId.{ObjectId}
use Rattle.rpc_machine.specs.State.{State}
use Rattle.rpc_machine.specs.World.{core}
use Rattle.laws_steps.specs.NodesThere.{IsWhole}
use Rattle.laws_nodes.specs.Embargoes.{ArePaired}
use Rattle.laws_nodes.specs.Questions.{QuestionsEnd}
use Rattle.laws_nodes.specs.Sources.{HasOneSource}
use Rattle.laws_runs.specs.Scenes.{Scene, IsScene}

pub record IsFit (v : Vat) (s : State) : Type 0 where
  pub vat : s.vat ≡ v
  pub whole : IsWhole s
  pub one_source : HasOneSource s
  pub questions : QuestionsEnd s
  pub paired : ArePaired s

abbrev pub CoresAreFit : Type 0
CoresAreFit = (root_a root_b : Option ObjectId) (x : Scene) → IsScene root_a root_b x → (v : Vat) → IsFit v (core x.world v)
