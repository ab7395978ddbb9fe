use Rattle.std.proofs.Common.{◌≡◌, ◌+◌, ◌<◌, ◌≤◌, ℕ, Option, IsOk, IfOk, sym, subst}
use Rattle.rpc_machine.specs.declared.node.Node.{Node}
use Rattle.rpc_machine.specs.Descriptors.{Describes}
use Rattle.rpc_machine.specs.Nodes.{settle}
use Rattle.core_store.specs.declared.store.Store.{Store}
use Rattle.core_store.specs.Holding.{state_of, IsSound}
use Rattle.core_store.specs.Noted.{noted_of}
use Rattle.core_step_routes.specs.Fitting.{AreCounts, HasExportRoom}
use Rattle.core_step_routes.proofs.descriptors.describe.Goals as goal

pub describe_walked-requires-clause-sound : goal.describe_walked-requires-clause-sound
describe_walked-requires-clause-sound c = subst (λ (x : Store). IsSound x) (sym c.shorten.ensures.same) c.requires.sound

pub describe_walked-requires-clause-slack : goal.describe_walked-requires-clause-slack
describe_walked-requires-clause-slack c = subst (λ (x : Store). 0 < x.slack) (sym c.shorten.ensures.same) c.requires.slack

pub returns : goal.returns
returns c =
    let node = c.args.node in
    let said = c.describe_walked.result in
    let new = c.describe_walked.new.store in
    let walked = c.describe_walked.ensures in
    let same = c.shorten.ensures.same in record {
      ok = subst (λ (x : Store). IfOk said (λ d. Describes (state_of x) node d (state_of new))) same walked.ok;
      full = walked.full;
      fits =
          subst
          (λ (x : Store). (counts : Node → Option ℕ) → AreCounts (state_of x) counts → HasExportRoom (state_of x) counts (settle (state_of x) node) → IsOk said)
          same walked.fits;
      left = subst (λ (x : Store). (x.slack ≤ new.slack + 1) × (new.slack ≤ x.slack)) same walked.left;
      waits = subst (λ (x : Store). new.waits ≡ x.waits) same walked.waits;
      noted = subst (λ (x : Store). noted_of new.names ≡ noted_of x.names) same walked.noted;
      sound = walked.sound;
    }
