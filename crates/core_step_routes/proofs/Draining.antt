-- The calls that were taken out are routed one after the other.
use Rattle.std.proofs.Common.{◌≡◌, ℕ, List, [], ◌∷◌, sym, ap, subst}
use Rattle.rpc_machine.specs.declared.node.Node.{Node}
use Rattle.rpc_machine.specs.declared.node.Node.TheVariants as node
use Rattle.rpc_machine.specs.declared.calls.HeldCall.{HeldCall}
use Rattle.rpc_machine.specs.Progress.{Progress, with_state}
use Rattle.rpc_machine.specs.Routing.{Routes, RoutesAll, RoutesHeld}
use Rattle.core_waits.specs.Waiting.{calls_of}
use Rattle.core_store.specs.declared.store.Store.{Store}
use Rattle.core_store.specs.Holding.{state_of}
use Rattle.core_step.specs.declared.step.Step.{Step}
use Rattle.core_step.specs.InProgress.{progress_of}

-- The step, with the state that it had.
pub same_progress : (x : Step) (s : Store) → state_of s ≡ state_of x.store → progress_of (record x { store = s }) ≡ progress_of x
same_progress x s e = ap (λ t. with_state (progress_of x) t) e

pub all_next : (d e next : Progress) (n : Node) (h : HeldCall) (old rest now : List HeldCall) → e ≡ d → old ≡ h ∷ rest → now ≡ rest → Routes e h.call n next
    → (p : Progress) → RoutesAll next (calls_of now) n p → RoutesAll d (calls_of old) n p
all_next d e next n h old rest now same is left one p all =
    subst (λ (hs : List HeldCall). RoutesAll d (calls_of hs) n p) (sym is)
    (next, subst (λ (x : Progress). Routes x h.call n next) same one, subst (λ (hs : List HeldCall). RoutesAll next (calls_of hs) n p) left all)

pub held_next : (d e next : Progress) (o : ℕ) (h : HeldCall) (old rest now : List HeldCall) → e ≡ d → old ≡ h ∷ rest → now ≡ rest → Routes e h.call (node.Field o h.path) next
    → (p : Progress) → RoutesHeld next o now p → RoutesHeld d o old p
held_next d e next o h old rest now same is left one p all =
    subst (λ (hs : List HeldCall). RoutesHeld d o hs p) (sym is)
    (next, subst (λ (x : Progress). Routes x h.call (node.Field o h.path) next) same one, subst (λ (hs : List HeldCall). RoutesHeld next o hs p) left all)

-- None is left.
pub all_done : (d e : Progress) (n : Node) (old : List HeldCall) → e ≡ d → old ≡ [] → RoutesAll d (calls_of old) n e
all_done d e n old same is = subst (λ (hs : List HeldCall). RoutesAll d (calls_of hs) n e) (sym is) same

pub held_done : (d e : Progress) (o : ℕ) (old : List HeldCall) → e ≡ d → old ≡ [] → RoutesHeld d o old e
held_done d e o old same is = subst (λ (hs : List HeldCall). RoutesHeld d o hs e) (sym is) same
