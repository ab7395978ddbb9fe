-- The record of the middle of a step, between two steps.
use Rattle.std.specs.FinMap as map
use Rattle.std.specs.Ordering.{nat_cmp}
use Rattle.std.proofs.Common.{◌≡◌, ℕ, List, [], Option, None, Some, IsSome, refl, sym, ap, subst, ◌∙◌}
use Rattle.finite_maps.specs.Tally.{Map}
use Rattle.rpc_msg.specs.Op.{Op}
use Rattle.rpc_msg.specs.declared.parts.Descriptor.{Descriptor}
use Rattle.rpc_msg.specs.declared.ids.ObjectId.{ObjectId}
use Rattle.rpc_msg.specs.declared.ids.Vat.{Vat}
use Rattle.rpc_msg.specs.declared.message.Message.{Message}
use Rattle.rpc_machine.specs.declared.command.Level.{Level}
use Rattle.rpc_machine.specs.declared.entries.Import.{Import}
use Rattle.rpc_machine.specs.declared.node.Node.{Node}
use Rattle.rpc_machine.specs.declared.node.Node.TheVariants as node
use Rattle.rpc_machine.specs.State.{State, start}
use Rattle.rpc_machine.specs.Nodes.{field_link, link, promise_link, value_of}
use Rattle.rpc_machine.specs.Advancing.{Leads, NothingYet, known_by_resolve, known_by_return, resolution_of, returned_of}
use Rattle.laws_steps.specs.Callers.{IsOpenFor}
use Rattle.laws_routes.specs.Between.{Across, Inside}
use Rattle.laws_routes.specs.Midway.{Midway}
use Rattle.laws_routes.proofs.WhatGoes.{none_there}

pub joins : (s other : State) (out back : List Message) → Inside s → Inside other → Across s other out back → Midway s other out back
joins s other out back h k a = record {
  stop = h.stop;
  links = h.links;
  heads = h.heads;
  embargoes = h.embargoes;
  resolved = h.resolved;
  returned = h.returned;
  waits = h.waits;
  holds = h.holds;
  keeps = h.keeps;
  paired = h.paired;
  exports = h.exports;
  theirs = λ e x f. (let b = k.exports e x f in b.0);
  imported = a.imported;
  answers = h.answers;
  pending = h.pending;
  awaited = a.awaited;
  opens = a.opens;
  returns = a.returns;
  answered = a.answered;
  met = a.met;
  named = a.named;
  sent = a.sent;
  echoed = a.echoed;
}

pub splits : (s other : State) (out back : List Message) → Midway s other out back → Inside s × Across s other out back
splits s other out back h = (
  record {
    stop = h.stop;
    links = h.links;
    heads = h.heads;
    embargoes = h.embargoes;
    resolved = h.resolved;
    returned = h.returned;
    waits = h.waits;
    holds = h.holds;
    keeps = h.keeps;
    paired = h.paired;
    exports = h.exports;
    answers = h.answers;
    pending = h.pending;
  },
  record {
    imported = h.imported;
    awaited = h.awaited;
    opens = h.opens;
    returns = h.returns;
    answered = h.answered;
    met = h.met;
    named = h.named;
    sent = h.sent;
    echoed = h.echoed;
  },
)

-- Nothing is in an empty map.
module _ {X : Type 0} where
  abbrev none_yet : Map X
  none_yet = map.empty

  no_entry : (k : ℕ) (x : X) → map.get none_yet k ≡ Some x → ⊥
  no_entry k x e = let bad : ◌≡◌ {A = Option X} None (Some x) = sym (map.get-empty nat_cmp k) ∙ e in cc

abbrev nothing_of : (X : Type 0) → Map X
nothing_of X = map.empty

no_key : (X : Type 0) (k : ℕ) → IsSome (map.get (nothing_of X) k) → ⊥
no_key X k i = none_there X (subst (λ (o : Option X). IsSome o) (map.get-empty nat_cmp k) i)

module _ (v : Vat) (level : Level) (object : Option ObjectId) where
  abbrev s : State
  s = start v level object

  no_link : (n : Node) → link s n ≡ None
  no_link (node.Object o) = refl
  no_link (node.Promise p) = ap promise_link (map.get-empty nat_cmp p)
  no_link (node.Field o path) = ap (λ z. field_link path (value_of z)) (map.get-empty nat_cmp o)
  no_link (node.Import e) = refl
  no_link (node.Pipe q path) = refl
  no_link (node.Broken reason) = refl

  none_leads : (n k : Node) → link s n ≡ Some k → ⊥
  none_leads n k e = let bad : ◌≡◌ {A = Option Node} None (Some k) = sym (no_link n) ∙ e in cc

  inside : Inside s
  inside = record {
    stop = λ n. (0, no_link n);
    links = λ m k i e. absurd (none_leads m k e);
    heads = λ r x e. absurd (no_entry r x e);
    embargoes = λ e b i. absurd (no_entry e b i);
    resolved = λ e said to a. absurd (by_resolve e said to a);
    returned = λ q path said to a. absurd (by_return q path said to a);
    waits = λ p cs e. absurd (no_entry p _ e);
    holds = λ o x e. absurd (no_entry o x e);
    keeps = λ e b i. absurd (no_entry e b i);
    paired = λ r x e. absurd (no_entry r x e);
    exports = λ e x f. absurd (no_entry e x f);
    answers = λ q a f. absurd (no_entry q a f);
    pending = λ o q i. absurd (subst (IsOpenFor q) (map.get-empty nat_cmp o) i);
  }
    where
      by_resolve : (e : ℕ) (said : Descriptor) (to : Node) → known_by_resolve (resolution_of (map.get s.imports e)) ≡ Leads said to → ⊥
      by_resolve e said to a = let bad : NothingYet ≡ Leads said to = ap (λ o. known_by_resolve (resolution_of o)) (sym (map.get-empty nat_cmp e)) ∙ a in cc

      by_return : (q : ℕ) (path : List Op) (said : Descriptor) (to : Node) → known_by_return path (returned_of (map.get s.questions q)) ≡ Leads said to → ⊥
      by_return q path said to a = let bad : NothingYet ≡ Leads said to = ap (λ o. known_by_return path (returned_of o)) (sym (map.get-empty nat_cmp q)) ∙ a in cc

  across : (u : Vat) (theirs : Level) (root : Option ObjectId) → Across s (start u theirs root) [] []
  across u theirs root = record {
    imported = λ e i. absurd (no_key Import e i);
    awaited = λ q a e. absurd (no_entry q a e);
    opens = tt;
    returns = tt;
    answered = λ q x e. absurd (no_entry q x e);
    met = tt;
    named = (tt, tt);
    sent = tt;
    echoed = tt;
  }

pub new_vats : (v u : Vat) (own theirs : Level) (object other : Option ObjectId) → Inside (start v own object) × Across (start v own object) (start u theirs other) [] []
new_vats v u own theirs object other = (inside v own object, across v own object u theirs other)
