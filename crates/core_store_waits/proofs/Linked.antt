-- How many links lead on from a node after a change of an outcome; calls without the paths that they wait for.
use Rattle.std.proofs.Common.{◌≡◌, ℕ, ◌+◌, List, [], ◌∷◌, ◌++◌, Option, None, Some, length, refl, ap, arith}
use Rattle.std.specs.FinMap as map
use Rattle.finite_maps.specs.Tally.{Map, tally_of}
use Rattle.finite_maps.proofs.Tallies.{tally-new, tally-split}
use Rattle.core_store_waits.proofs.Beside.{tally_put}
use Rattle.rpc_machine.specs.declared.calls.KeptOutcome.{KeptOutcome}
use Rattle.rpc_machine.specs.declared.calls.HeldCall.{HeldCall}
use Rattle.rpc_machine.specs.declared.node.Node.{Node}
use Rattle.rpc_machine.specs.declared.calls.Value.{Value}
use Rattle.rpc_machine.specs.declared.calls.Value.TheVariants as value
use Rattle.rpc_machine.specs.Nodes.{links_of, all_links}
use Rattle.rpc_machine.specs.Places.{named_by_calls, named_by_held, named_by_value}
use Rattle.rpc_machine.specs.Progress.{caps_of}
use Rattle.core_waits.specs.Waiting.{calls_of}

abbrev links_in : KeptOutcome → ℕ
links_in x = links_of x.value

each_links : (es : List (ℕ × KeptOutcome)) → all_links es ≡ tally_of links_in es
each_links [] = refl
each_links (e ∷ es) = ap (λ n. links_of e.1.value + n) (each_links es)

abbrev pub links_from : Map KeptOutcome → ℕ
links_from m = all_links (map.entries m)

module _ (m : Map KeptOutcome) (o : ℕ) where
  pub links_new : (y : KeptOutcome) → map.get m o ≡ None → links_from (map.insert m o y) ≡ links_of y.value + links_from m
  links_new y free =
      let a = tally-new links_in m o y free in
      let b = each_links (map.entries m) in
      let c = each_links (map.entries (map.insert m o y)) in
      omega (arith, a, b, c)

  pub links_put : (x y : KeptOutcome) → map.get m o ≡ Some x → links_from (map.insert m o y) + links_of x.value ≡ links_from m + links_of y.value
  links_put x y there =
      let a = tally_put links_in m o x y there in
      let b = each_links (map.entries m) in
      let c = each_links (map.entries (map.insert m o y)) in
      omega (arith, a, b, c)

  pub links_gone : (x : KeptOutcome) → map.get m o ≡ Some x → links_from m ≡ links_of x.value + links_from (map.remove m o)
  links_gone x there =
      let a = tally-split links_in m o x there in
      let b = each_links (map.entries m) in
      let c = each_links (map.entries (map.remove m o)) in
      omega (arith, a, b, c)

-- A link for each capability.
pub links_named : (v : Option Value) → links_of v ≡ length (named_by_value v)
links_named None = refl
links_named (Some (value.Results payload caps)) = refl
links_named (Some (value.Exception exception)) = refl

pub links_of_caps : (v : Value) → links_of (Some v) ≡ length (caps_of v)
links_of_caps (value.Results payload caps) = refl
links_of_caps (value.Exception exception) = refl

-- The calls without their paths are as many, and name the same.
pub as_many : (hs : List HeldCall) → length (calls_of hs) ≡ length hs
as_many [] = refl
as_many (h ∷ hs) = let ih = as_many hs in omega (arith, ih)

pub same_named : (hs : List HeldCall) → named_by_held hs ≡ named_by_calls (calls_of hs)
same_named [] = refl
same_named (h ∷ hs) = ap (λ (ns : List Node). h.call.request.caps ++ ns) (same_named hs)
