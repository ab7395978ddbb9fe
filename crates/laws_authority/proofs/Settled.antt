-- An outcome that is kept for a new call changes nowhere where nodes settle.
use Rattle.std.proofs.Common.{◌≡◌, ℕ, ◌+◌, List, [], ◌∷◌, None, refl, sym, ap, arith}
use Rattle.std.specs.FinMap as map
use Rattle.finite_maps.specs.Tally.{tally_of}
use Rattle.finite_maps.proofs.Tallies.{tally-new}
use Rattle.finite_maps.proofs.Tested.{at_put}
use Rattle.rpc_machine.specs.declared.node.Node.{Node}
use Rattle.rpc_machine.specs.declared.node.Node.TheVariants as node
use Rattle.rpc_machine.specs.declared.calls.Caller.TheVariants as caller
use Rattle.rpc_machine.specs.declared.calls.KeptOutcome.{KeptOutcome}
use Rattle.rpc_machine.specs.declared.entries.Reference.{Reference}
use Rattle.rpc_machine.specs.State.{State}
use Rattle.rpc_machine.specs.Nodes.{link, links_of, all_links, links, settle, value_of, field_link}
use Rattle.rpc_machine.proofs.Following.{settles_alike}
use Rattle.laws_acts.specs.FirstActs.{keeping}

abbrev links_in : KeptOutcome → ℕ
links_in x = links_of x.value

each_links : (es : List (ℕ × KeptOutcome)) → all_links es ≡ tally_of links_in es
each_links [] = refl
each_links (e ∷ es) = ap (λ n. links_of e.1.value + n) (each_links es)

module _ (s : State) (r : ℕ) (x : Reference) (o : ℕ) (free : map.get s.outcomes o ≡ None) where
  abbrev its : KeptOutcome
  its = record { caller = caller.Application (record { 0 = s.next_call }); value = None; waiting = [] }

  values_same : (q : ℕ) → value_of (map.get (map.insert s.outcomes o its) q) ≡ value_of (map.get s.outcomes q)
  values_same = at_put (λ q y. value_of y ≡ value_of (map.get s.outcomes q)) s.outcomes o its (sym (ap value_of free)) (λ q e. refl)

  link_same : (n : Node) → link (keeping s r x o) n ≡ link s n
  link_same (node.Object k) = refl
  link_same (node.Promise p) = refl
  link_same (node.Field q path) = ap (field_link path) (values_same q)
  link_same (node.Import e) = refl
  link_same (node.Pipe q path) = refl
  link_same (node.Broken reason) = refl

  links_same : links (keeping s r x o) ≡ links s
  links_same =
      let a = tally-new links_in s.outcomes o its free in
      let b = each_links (map.entries s.outcomes) in
      let c = each_links (map.entries (map.insert s.outcomes o its)) in
      omega (arith, a, b, c)

  pub still_settles : (n : Node) → settle (keeping s r x o) n ≡ settle s n
  still_settles = settles_alike s (keeping s r x o) link_same links_same
