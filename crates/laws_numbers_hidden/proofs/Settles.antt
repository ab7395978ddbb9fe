-- Where nodes lead is the same with other numbers.
use Rattle.std.proofs.Common.{◌≡◌, ℕ, zero, suc, ◌+◌, List, [], ◌∷◌, ◌++◌, map, length, Option, None, Some, unwrap_or, slice_get, refl, sym, ap, ◌∙◌}
use Rattle.finite_maps.proofs.Values.{entries-map_values, get-map_values, len-map_values}
use Rattle.std.specs.FinMap as finite
use Rattle.finite_maps.specs.Tally.{Map, map_values, option_changed, changed_each}
use Rattle.rpc_msg.specs.Op.{Op}
use Rattle.rpc_msg.specs.declared.ids.ObjectId.{ObjectId}
use Rattle.rpc_machine.specs.declared.node.Node.{Node}
use Rattle.rpc_machine.specs.declared.node.Node.TheVariants as node
use Rattle.rpc_machine.specs.declared.node.Reason.TheVariants.{NotACapability}
use Rattle.rpc_machine.specs.declared.calls.Value.{Value}
use Rattle.rpc_machine.specs.declared.calls.Value.TheVariants as value
use Rattle.rpc_machine.specs.declared.calls.KeptOutcome.{KeptOutcome}
use Rattle.rpc_machine.specs.declared.calls.Promise.{Promise}
use Rattle.rpc_machine.specs.declared.calls.Promise.TheVariants as promise
use Rattle.rpc_machine.specs.State.{State}
use Rattle.laws_numbers_hidden.specs.Renamed.{node_by, value_by, kept_by, promise_by, state_by}
use Rattle.rpc_msg.specs.CapAt.{CapAt}
use Rattle.rpc_msg.specs.CapAt.TheVariants.{Cap, Null, NotCap}
use Rattle.rpc_machine.specs.Payloads.{cap_at}
use Rattle.rpc_machine.specs.Nodes.{node_of_cap, field_of, promise_link, value_of, field_link, link, next, follow, links_of, all_links, links, settle}

pub map-append : {X Y : Type 0} (g : X → Y) (xs ys : List X) → map g (xs ++ ys) ≡ map g xs ++ map g ys
map-append g [] ys = refl
map-append g (x ∷ xs) ys = ap (λ zs. g x ∷ zs) (map-append g xs ys)

pub length-map : {X Y : Type 0} (g : X → Y) (xs : List X) → length (map g xs) ≡ length xs
length-map g [] = refl
length-map g (x ∷ xs) = ap suc (length-map g xs)

-- What an entry answers that is the same with other numbers.
pub asked : {X A : Type 0} (t : Option X → A) (g : X → X) → ((o : Option X) → t (option_changed g o) ≡ t o) → (m : Map X) (k : ℕ) → t (finite.get (map_values g m) k) ≡ t (finite.get m k)
asked t g same m k = ap t (get-map_values g m k) ∙ same (finite.get m k)

-- A key that is free stays so.
pub free_in : {X : Type 0} (g : X → X) (m : Map X) (k : ℕ) → finite.get m k ≡ None → finite.get (map_values g m) k ≡ None
free_in g m k e = get-map_values g m k ∙ ap (option_changed g) e

module _ (f : ObjectId → ObjectId) where
  abbrev N : Node → Node
  N = node_by f

  -- What is asked of a node, but for the number of an object.
  pub blind : {A : Type 0} (t : Node → A) → ((o x : ObjectId) → t (node.Object o) ≡ t (node.Object x)) → (n : Node) → t (node_by f n) ≡ t n
  blind t h (node.Object o) = h (f o) o
  blind t h (node.Promise p) = refl
  blind t h (node.Field o path) = refl
  blind t h (node.Import e) = refl
  blind t h (node.Pipe q path) = refl
  blind t h (node.Broken reason) = refl

  at_so : (ms : List Node) (i : ℕ) → N (unwrap_or (slice_get ms i) (node.Broken NotACapability)) ≡ unwrap_or (slice_get (map N ms) i) (node.Broken NotACapability)
  at_so [] i = refl
  at_so (m ∷ ms) zero = refl
  at_so (m ∷ ms) (suc i) = at_so ms i

  found : (caps : List Node) (x : CapAt) → N (node_of_cap caps x) ≡ node_of_cap (map N caps) x
  found caps (Cap i) = at_so caps i
  found caps Null = refl
  found caps NotCap = refl

  pub fields : (v : Value) (path : List Op) → node_by f (field_of v path) ≡ field_of (value_by f v) path
  fields (value.Results payload caps) path = found caps (cap_at payload path)
  fields (value.Exception e) path = refl

  promise_links : (o : Option Promise) → option_changed N (promise_link o) ≡ promise_link (option_changed (promise_by f) o)
  promise_links None = refl
  promise_links (Some (promise.Open calls)) = refl
  promise_links (Some (promise.Fixed to)) = refl

  value_links : (path : List Op) (w : Option Value) → option_changed N (field_link path w) ≡ field_link path (option_changed (value_by f) w)
  value_links path None = refl
  value_links path (Some w) = ap Some (fields w path)

  kept_links : (path : List Op) (o : Option KeptOutcome) → option_changed N (field_link path (value_of o)) ≡ field_link path (value_of (option_changed (kept_by f) o))
  kept_links path None = refl
  kept_links path (Some x) = value_links path x.value

  links_so : (s : State) (n : Node) → option_changed N (link s n) ≡ link (state_by f s) (N n)
  links_so s (node.Object o) = refl
  links_so s (node.Promise p) = promise_links (finite.get s.promises p) ∙ sym (ap promise_link (get-map_values (promise_by f) s.promises p))
  links_so s (node.Field o path) =
      kept_links path (finite.get s.outcomes o) ∙ sym (ap (λ (x : Option KeptOutcome). field_link path (value_of x)) (get-map_values (kept_by f) s.outcomes o))
  links_so s (node.Import e) = refl
  links_so s (node.Pipe q path) = refl
  links_so s (node.Broken reason) = refl

  unwrapped : (o : Option Node) (m : Node) → N (unwrap_or o m) ≡ unwrap_or (option_changed N o) (N m)
  unwrapped None m = refl
  unwrapped (Some n) m = refl

  pub follows : (s : State) (k : ℕ) (n : Node) → node_by f (follow s k n) ≡ follow (state_by f s) k (node_by f n)
  follows s zero n = refl
  follows s (suc k) n =
      follows s k (next s n) ∙ ap (follow (state_by f s) k) (unwrapped (link s n) n ∙ ap (λ (o : Option Node). unwrap_or o (N n)) (links_so s n))

  count_links : (w : Option Value) → links_of (option_changed (value_by f) w) ≡ links_of w
  count_links None = refl
  count_links (Some (value.Results payload caps)) = length-map N caps
  count_links (Some (value.Exception e)) = refl

  all_same : (es : List (ℕ × KeptOutcome)) → all_links (changed_each (kept_by f) es) ≡ all_links es
  all_same [] = refl
  all_same (e ∷ es) =
      let a = count_links e.1.value in
      let b = all_same es in
      λ i. a i + b i

  same_links : (s : State) → links (state_by f s) ≡ links s
  same_links s =
      let a = len-map_values (promise_by f) s.promises in
      let b : all_links (finite.entries (map_values (kept_by f) s.outcomes)) ≡ all_links (finite.entries s.outcomes) = ap all_links (entries-map_values (kept_by f) s.outcomes) ∙ all_same (finite.entries s.outcomes) in
      λ i. 1 + (a i + b i)

  pub settles : (s : State) (n : Node) → node_by f (settle s n) ≡ settle (state_by f s) (node_by f n)
  settles s n = follows s (links s) n ∙ ap (λ k. follow (state_by f s) k (N n)) (sym (same_links s))

  -- What is asked of where a node settles.
  pub same_settled : {A : Type 0} (t : Node → A) → ((o x : ObjectId) → t (node.Object o) ≡ t (node.Object x)) → (s : State) (n : Node) → t (settle (state_by f s) (node_by f n)) ≡ t (settle s n)
  same_settled t h s n = ap t (sym (settles s n)) ∙ blind t h (settle s n)
