-- The outcomes that arose are settled, one after the other.
use Rattle.std.proofs.Common.{◌≡◌, ◌<◌, ℕ, [], ◌∷◌, refl, sym, subst}
use Rattle.rpc_machine.specs.declared.calls.Value.{Value}
use Rattle.rpc_machine.specs.Progress.{Progress}
use Rattle.rpc_machine.specs.Settling.{SettlesOutcome, Drains, NoneLeft, OneMore}
use Rattle.core_step_settles.specs.Unknown.{unknown}
use Rattle.core_step_settles.proofs.Fewer.{settles}

-- What is drained from here on is drained from the start.
abbrev pub DrainsOn : Progress → Progress → Type 0
DrainsOn d now = (new : Progress) → Drains new now → Drains new d

abbrev before : Progress → ℕ × Value → Progress
before p x = record p { arisen = x ∷ p.arisen }

pub drains_on : (d now taken mid : Progress) (x : ℕ × Value) → DrainsOn d now → now ≡ before taken x → SettlesOutcome taken x.0 x.1 mid → DrainsOn d mid
drains_on d now taken mid x on is h = λ new rest.
    on new (subst (λ (p : Progress). Drains new p) (sym is) (OneMore {d = before taken x} x.0 x.1 taken.arisen refl h rest))

pub drained : (d now new : Progress) → DrainsOn d now → new ≡ now → now.arisen ≡ [] → Drains new d
drained d now new on same none = subst (λ (p : Progress). Drains p d) (sym same) (on now (NoneLeft none))

-- Each one that is settled is one fewer that is not known.
pub goes_on : (now taken mid : Progress) (x : ℕ × Value) → now ≡ before taken x → SettlesOutcome taken x.0 x.1 mid → unknown mid.state.outcomes < unknown now.state.outcomes
goes_on now taken mid x is h = subst (λ (p : Progress). unknown mid.state.outcomes < unknown p.state.outcomes) (sym is) (settles taken x.0 x.1 mid h)
