-- What goes out for Resolves.
use Rattle.std.proofs.Common.{◌≡◌, ◌⊎◌, inl, inr, ℕ, List, [], ◌∷◌, Option, refl, sym, ap, subst, ◌∙◌}
use Rattle.finite_maps.specs.Tally.{Map}
use Rattle.rpc_msg.specs.declared.exception.Exception.{Exception}
use Rattle.rpc_machine.specs.declared.node.Node.{Node}
use Rattle.rpc_machine.specs.declared.node.Node.TheVariants as node
use Rattle.rpc_machine.specs.declared.node.Reason.{Reason}
use Rattle.rpc_machine.specs.declared.entries.Export.{Export}
use Rattle.rpc_machine.specs.State.{State}
use Rattle.rpc_machine.specs.Nodes.{settle}
use Rattle.rpc_machine.specs.Progress.{Progress}
use Rattle.rpc_machine.specs.Descriptors.{Described}
use Rattle.rpc_machine.specs.Settling.{ResolvesTo, ResolvesBy, ResolvesEach}
use Rattle.laws_acts.proofs.Alone.{described}
use Rattle.laws_steps.specs.Settled.{IsAmong}
use Rattle.laws_places.proofs.Covers.{Within, goes_in}
use Rattle.laws_places.proofs.Broken.{Each}

-- A Resolve of the node says that it is one of these, or broken.
abbrev pub GoesTo : State → List Node → Node → Type 0
GoesTo r ns n = IsAmong (settle r (settle r n)) ns ⊎ ((q : Reason) × (settle r n ≡ node.Broken q))

-- While Resolves are sent, a state differs from the first one in its exports alone.
abbrev After : State → List Node → ℕ → State → Type 0
After r ns b s = (m : Map Export) × (s ≡ record r { exports = m }) × Within m ns b

resolve_in : (r : State) (ns : List Node) (b : ℕ) (told : Option Exception) (d : Progress) (es : Map Export) (x : ℕ × Node) (new : Progress) → d.state ≡ record r { exports = es } → GoesTo r ns x.1 → ResolvesBy d x.0 told (settle d.state x.1) new → Within es ns b → After r ns b new.state
resolve_in r ns b told d es x new e k h w = by k
  where
    to : (n : Node) → IsAmong (settle r n) ns → ResolvesTo d x.0 n new → After r ns b new.state
    to n i g =
        let said : Described (record r { exports = es }) (settle r n) g.0 g.1 = subst (λ (s : State). Described s (settle s n) g.0 g.1) e g.2 in
        let out = described (record r { exports = es }) (settle r n) g.0 g.1 said in
        (out.0, ap (λ (p : Progress). p.state) g.3 ∙ out.2, goes_in es (settle r n) g.0 out.0 ns b out.1 i w)

    never : (n : Node) (q : Reason) → n ≡ node.Broken q → ResolvesBy d x.0 told n new → After r ns b new.state
    never n q f g =
        let quiet : new.state ≡ d.state = ap (λ (p : Progress). p.state) (subst (λ (y : Node). ResolvesBy d x.0 told y new) f g) in
        (es, quiet ∙ e, w)

    kind : (n : Node) → IsAmong (settle r n) ns → ResolvesBy d x.0 told n new → After r ns b new.state
    kind (node.Object o) i g = to (node.Object o) i g
    kind (node.Promise p) i g = to (node.Promise p) i g
    kind (node.Field o path) i g = to (node.Field o path) i g
    kind (node.Import j) i g = to (node.Import j) i g
    kind (node.Pipe q path) i g = to (node.Pipe q path) i g
    kind (node.Broken q) i g = never (node.Broken q) q refl g

    says : ResolvesBy d x.0 told (settle r x.1) new
    says = subst (λ (s : State). ResolvesBy d x.0 told (settle s x.1) new) e h

    by : GoesTo r ns x.1 → After r ns b new.state
    by (inl i) = kind (settle r x.1) i says
    by (inr q) = never (settle r x.1) q.0 q.1 says

pub resolves_in : (r : State) (ns : List Node) (b : ℕ) (told : Option Exception) (d : Progress) (es : Map Export) (xs : List (ℕ × Node)) (new : Progress) → d.state ≡ record r { exports = es } → Each (GoesTo r ns) xs → ResolvesEach d told xs new → Within es ns b → Within new.state.exports ns b
resolves_in r ns b told d es [] new e k h w = subst (λ (m : Map Export). Within m ns b) (sym (ap (λ (p : Progress). p.state.exports) h ∙ ap (λ (s : State). s.exports) e)) w
resolves_in r ns b told d es (x ∷ xs) new e k h w =
    let one = resolve_in r ns b told d es x h.0 e k.0 h.1 w in
    resolves_in r ns b told h.0 one.0 xs new one.1 k.1 h.2 one.2
