-- In each scene the two vats are tied to a machine of routes whose invariant holds.
use Rattle.std.proofs.Common.{[], Option}
use Rattle.rpc_msg.specs.declared.ids.ObjectId.{ObjectId}
use Rattle.rpc_msg.specs.declared.ids.Vat.{Vat}
use Rattle.rpc_msg.specs.declared.ids.Vat.TheVariants.{A}
use Rattle.rpc_machine.specs.declared.command.Level.TheVariants.{One}
use Rattle.rpc_machine.specs.State.{start}
use Rattle.rpc_machine.specs.World.{core}
use Rattle.laws_order.specs.Machine as routing
use Rattle.laws_order.specs.Invariant.{InvariantWith}
use Rattle.laws_order.proofs.Moves.{moves_keep}
use Rattle.laws_runs.specs.Scenes.{Scene}
use Rattle.laws_routes.specs.ChainLaws.{VatsStayTied}
use Rattle.laws_routes.specs.PairLaws.{StartIsTied, beginning}
use Rattle.laws_routes.specs.Points.{routes}
use Rattle.laws_routes.specs.StepLaws.{TiedAt}
use Rattle.laws_routes.specs.Ties.{Ghosts}
use Rattle.laws_scenes.specs.Walked.{IsBetweenSteps, all_told, seen}

pub record IsTied (root_a root_b : Option ObjectId) (x : Scene) (k : IsBetweenSteps root_a root_b x) (v : Vat) : Type 0 where
  pub ghosts : Ghosts
  pub net : routing.State routes
  pub tied : TiedAt (seen x.world k.made (all_told x.journal) v) (core x.world v) ghosts net
  pub holds : InvariantWith net []

pub tied_in : StartIsTied → VatsStayTied → (root_a root_b : Option ObjectId) (x : Scene) (k : IsBetweenSteps root_a root_b x) (v : Vat) → IsTied root_a root_b x k v
tied_in starts stay a b x k v =
    let z = starts A One One a b in
    let y = stay (beginning A One b) (seen x.world k.made (all_told x.journal) v) (start A One a) (core x.world v) z.0 z.1 z.2 z.3 (k.steps v) in
    record { ghosts = y.0; net = y.1; tied = y.3; holds = moves_keep y.1 [] z.1 [] y.2 z.3 }
