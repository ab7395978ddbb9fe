-- No link leads to what no place names.
use Rattle.std.proofs.Common.{◌≡◌, ◌≢◌, ℕ, zero, suc, Bool, true, false, cond, List, [], ◌∷◌, Option, None, Some, slice_get, unwrap_or, refl, sym, ap, ◌∙◌, arith}
use Rattle.std.specs.FinMap as map
use Rattle.finite_maps.proofs.Tested.{itself}
use Rattle.rpc_msg.specs.Op.{Op}
use Rattle.rpc_msg.specs.CapAt.{CapAt}
use Rattle.rpc_msg.specs.CapAt.TheVariants.{Cap, Null, NotCap}
use Rattle.rpc_machine.specs.Payloads.{cap_at}
use Rattle.rpc_machine.specs.declared.node.Node.{Node}
use Rattle.rpc_machine.specs.declared.node.Node.TheVariants as node
use Rattle.rpc_machine.specs.declared.node.Reason.{Reason}
use Rattle.rpc_machine.specs.declared.node.Reason.TheVariants.{NotACapability, NullCapability, BrokenPromise}
use Rattle.rpc_machine.specs.declared.calls.Promise.{Promise}
use Rattle.rpc_machine.specs.declared.calls.Promise.TheVariants as promise
use Rattle.rpc_machine.specs.declared.calls.Value.{Value}
use Rattle.rpc_machine.specs.declared.calls.Value.TheVariants as value
use Rattle.rpc_machine.specs.declared.calls.KeptOutcome.{KeptOutcome}
use Rattle.rpc_machine.specs.State.{State}
use Rattle.rpc_machine.specs.Lists.{how_many}
use Rattle.rpc_machine.specs.Nodes.{link, node_of_cap, field_link, promise_link, value_of, is_promise, is_field}
use Rattle.rpc_machine.specs.Places.{named_by_value, named_by_held, named_by_promise, named_by_outcome, names}
use Rattle.laws_acts.proofs.Parts.{how_many_append, part_gone, names_are}

one_leads : (x y : Node) → ◌≡◌ {A = Option Node} (Some x) (Some y) → x ≡ y
one_leads x y e = cc

none_leads : (y : Node) → ¬ (◌≡◌ {A = Option Node} None (Some y))
none_leads y e = cc

-- The first of a list that has none that pass does not pass, nor does any behind it.
first_not : (b : Bool) (n : ℕ) → cond b (suc n) n ≡ 0 → b ≡ false
first_not true n e = absurd (omega (arith, e))
first_not false n e = refl

rest_not : (b : Bool) (n : ℕ) → cond b (suc n) n ≡ 0 → n ≡ 0
rest_not true n e = absurd (omega (arith, e))
rest_not false n e = e

module _ (test : Node → Bool) (broken : (r : Reason) → test (node.Broken r) ≡ false) where
  among : (caps : List Node) (i : ℕ) (r : Reason) → how_many test caps ≡ 0 → test (unwrap_or (slice_get caps i) (node.Broken r)) ≡ false
  among [] i r none = broken r
  among (n ∷ ns) zero r none = first_not (test n) (how_many test ns) none
  among (n ∷ ns) (suc i) r none = among ns i r (rest_not (test n) (how_many test ns) none)

  by_value : (v : Option Value) (path : List Op) (m : Node) → how_many test (named_by_value v) ≡ 0 → field_link path v ≡ Some m → test m ≡ false
  by_value None path m none e = absurd (none_leads m e)
  by_value (Some (value.Results payload caps)) path m none e = ap test (sym (one_leads (node_of_cap caps (cap_at payload path)) m e)) ∙ by (cap_at payload path)
    where
      by : (c : CapAt) → test (node_of_cap caps c) ≡ false
      by (Cap i) = among caps i NotACapability none
      by Null = broken NullCapability
      by NotCap = broken NotACapability
  by_value (Some (value.Exception exception)) path m none e = ap test (sym (one_leads (node.Broken BrokenPromise) m e)) ∙ broken BrokenPromise

  module _ (s : State) (unnamed : names s test ≡ 0) where
    by_promise : (p : ℕ) (m : Node) (o : Option Promise) → map.get s.promises p ≡ o → promise_link o ≡ Some m → test m ≡ false
    by_promise p m None there e = absurd (none_leads m e)
    by_promise p m (Some (promise.Open calls)) there e = absurd (none_leads m e)
    by_promise p m (Some (promise.Fixed to)) there e =
        let a = names_are test s in
        let b = part_gone test named_by_promise s.promises p (promise.Fixed to) there in
        let c : how_many test (to ∷ []) ≡ 0 = omega (arith, a, b, unnamed) in
        ap test (sym (one_leads to m e)) ∙ first_not (test to) 0 c

    by_outcome : (o : ℕ) (path : List Op) (m : Node) (x : Option KeptOutcome) → map.get s.outcomes o ≡ x → field_link path (value_of x) ≡ Some m → test m ≡ false
    by_outcome o path m None there e = absurd (none_leads m e)
    by_outcome o path m (Some x) there e =
        let a = names_are test s in
        let b = part_gone test named_by_outcome s.outcomes o x there in
        let c = how_many_append test (named_by_value x.value) (named_by_held x.waiting) in
        by_value x.value path m (omega (arith, a, b, c, unnamed)) e

    -- A node that a link leads to does not pass.
    pub leads_not : (n m : Node) → link s n ≡ Some m → test m ≡ false
    leads_not (node.Object o) m e = absurd (none_leads m e)
    leads_not (node.Promise p) m e = by_promise p m (map.get s.promises p) refl e
    leads_not (node.Field o path) m e = by_outcome o path m (map.get s.outcomes o) refl e
    leads_not (node.Import i) m e = absurd (none_leads m e)
    leads_not (node.Pipe q path) m e = absurd (none_leads m e)
    leads_not (node.Broken reason) m e = absurd (none_leads m e)

pub no_link_to_promise : (s : State) (k : ℕ) → names s (is_promise k) ≡ 0 → (n : Node) → link s n ≢ Some (node.Promise k)
no_link_to_promise s k unnamed n e = let f : true ≡ false = sym (itself k) ∙ leads_not (is_promise k) (λ r. refl) s unnamed n (node.Promise k) e in cc

pub no_link_to_field : (s : State) (k : ℕ) → names s (is_field k) ≡ 0 → (n : Node) (path : List Op) → link s n ≢ Some (node.Field k path)
no_link_to_field s k unnamed n path e = let f : true ≡ false = sym (itself k) ∙ leads_not (is_field k) (λ r. refl) s unnamed n (node.Field k path) e in cc
