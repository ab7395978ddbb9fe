use Rattle.std.proofs.Common.{◌≡◌, ◌≤◌, ℕ, length, drop}
use Rattle.std.specs.BTreeMap.{get}
use Rattle.std.specs.Ordering.{nat_cmp}
use Rattle.capn_trees.specs.Views.{structs_view}
use Rattle.look_names.specs.Names.{place_from}
use Rattle.look_names.proofs.schema.places_of.Given as goal

abbrev pub decreases-loop-place : goal.decreases-loop-place
decreases-loop-place l = l.place

abbrev pub invariant-loop-place : goal.invariant-loop-place
invariant-loop-place l = (l.place ≤ length l.nodes) × ((id : ℕ) → get nat_cmp l.places id ≡ place_from (structs_view (drop l.place l.nodes)) id l.place)
