-- Two new vats hold nothing, and nothing stands on their wires.
use Rattle.std.specs.FinMap as map
use Rattle.std.proofs.Common.{ℕ, nat_cmp, Option, None, [], sym, subst}
use Rattle.finite_maps.specs.Tally.{Map}
use Rattle.rpc_msg.specs.declared.ids.ObjectId.{ObjectId}
use Rattle.rpc_msg.specs.declared.ids.Vat.{Vat}
use Rattle.rpc_msg.specs.declared.ids.Vat.TheVariants.{A, B}
use Rattle.rpc_journal.specs.Meaning.{History}
use Rattle.rpc_msg.specs.Vats.{other_vat}
use Rattle.rpc_machine.specs.declared.command.Level.{Level}
use Rattle.rpc_machine.specs.declared.command.Level.TheVariants.{One}
use Rattle.rpc_machine.specs.State.{start}
use Rattle.rpc_machine.specs.Progress.{quiet}
use Rattle.rpc_machine.specs.World.{core, inbox}
use Rattle.laws_runs.specs.Scenes.{begins}
use Rattle.laws_meanings.specs.NodeLabels.{Places, RefMeans, PromiseMeans, IsUnsettled, OutcomeMeans, EmbargoMeans, TaskMeans, OwnCallMeans, QuestionMeans, ImportMeans}
use Rattle.laws_wires.specs.Wires.{WiresMean, ImportAgrees, QuestionAgrees, export_label, past, sessions_at}
use Rattle.laws_wires.specs.WireLaws.{NewVatsMean, unlabelled}

at_none : {X : Type 0} (P : ℕ → Option X → Type 0) → ((k : ℕ) → P k None) → (k : ℕ) → P k (let m : Map X = map.empty in map.get m k)
at_none P f k = subst (P k) (sym (map.get-empty nat_cmp k)) (f k)

module _ (h : History) where
  new_places : (v w : Vat) (level : Level) (root : Option ObjectId) → Places h v unlabelled quiet (start w level root)
  new_places v w level root = (
    at_none (RefMeans h v unlabelled quiet) (λ k. tt),
    at_none (PromiseMeans h v unlabelled) (λ k. tt),
    at_none (IsUnsettled h v unlabelled (map.get (start w level root).promises)) (λ k. tt),
    at_none (OutcomeMeans h v unlabelled) (λ k. tt),
    at_none (λ k. EmbargoMeans h v unlabelled) (λ k. tt),
    at_none (TaskMeans h v unlabelled quiet) (λ k. tt),
    at_none (OwnCallMeans h v unlabelled) (λ k. tt),
    at_none (QuestionMeans h v unlabelled) (λ k. tt),
    at_none (ImportMeans h v unlabelled) (λ k. tt),
  )

  new_wires : (v u : Vat) (level : Level) (here there : Option ObjectId) → WiresMean h v (start v level here) unlabelled u (start u level there) unlabelled []
  new_wires v u level here there = record {
    imports = at_none (λ e. ImportAgrees None (export_label h u unlabelled (start u level there).exports e)) (λ e. tt);
    questions = at_none (λ q. QuestionAgrees unlabelled q (past v (sessions_at unlabelled (start u level there).answers) [] q)) (λ q. tt);
    link = tt;
  }

pub new_vats_mean : NewVatsMean
new_vats_mean h root_a root_b = record { places = places; wires = wires }
  where
    places : (v : Vat) → Places h v unlabelled quiet (core (begins root_a root_b).world v)
    places A = new_places h A A One root_a
    places B = new_places h B B One root_b

    wires : (v : Vat) → WiresMean h v (core (begins root_a root_b).world v) unlabelled (other_vat v) (core (begins root_a root_b).world (other_vat v)) unlabelled (inbox (begins root_a root_b).world (other_vat v))
    wires A = new_wires h A B One root_a root_b
    wires B = new_wires h B A One root_b root_a
