-- The value that an outcome takes is the same with other numbers: no capability leads to itself.
use Rattle.std.proofs.Common.{◌≡◌, inl, inr, ℕ, zero, suc, ◌+◌, List, [], ◌∷◌, ◌++◌, map, Some, refl, sym, ap, subst, ◌∙◌}
use Rattle.rpc_msg.specs.declared.ids.ObjectId.{ObjectId}
use Rattle.rpc_machine.specs.declared.node.Node.{Node}
use Rattle.rpc_machine.specs.declared.node.Node.TheVariants as node
use Rattle.rpc_machine.specs.declared.node.Reason.TheVariants.{NotACapability}
use Rattle.rpc_machine.specs.declared.calls.HeldCall.{HeldCall}
use Rattle.rpc_machine.specs.declared.calls.Caller.{Caller}
use Rattle.rpc_machine.specs.declared.calls.Value.{Value}
use Rattle.rpc_machine.specs.declared.calls.Value.TheVariants as value
use Rattle.rpc_machine.specs.declared.calls.Promise.TheVariants as promise
use Rattle.rpc_machine.specs.State.{State}
use Rattle.laws_numbers_hidden.specs.Renamed.{node_by, held_by, value_by, promise_by, state_by}
use Rattle.laws_numbers_hidden.specs.Steps.{KeepsApart}
use Rattle.rpc_msg.specs.Payloads.{Contents as Payload}
use Rattle.rpc_machine.specs.Nodes.{follow}
use Rattle.rpc_machine.specs.Settling.{known, TurnsBack, absent, behind, PutsIn, Untangles, Fits}
use Rattle.laws_numbers_hidden.proofs.Settles.{free_in, follows}
use Rattle.laws_numbers_hidden.proofs.Going.{put_promise, put_outcome}
use Rattle.laws_numbers_hidden.proofs.Described.{apart}

module _ (f : ObjectId → ObjectId) (one : KeepsApart f) where
  abbrev N : Node → Node
  N = node_by f

  abbrev S : State → State
  S = state_by f

  pub knows : (s : State) (o : ℕ) (who : Caller) (hs : List HeldCall) (v : Value) → state_by f (known s o who hs v) ≡ known (state_by f s) o who (map (held_by f) hs) (value_by f v)
  knows s o who hs v = put_outcome f s o (record { caller = who; value = Some v; waiting = hs })

  turns : (s : State) (o : ℕ) (p : Payload) (i : ℕ) (n : Node) → TurnsBack s o p i n → TurnsBack (S s) o p i (N n)
  turns s o p i n h = (h.0, h.1, sym (follows f s h.0 n) ∙ ap N h.2, h.3)

  turned : (s : State) (o : ℕ) (p : Payload) (i : ℕ) (n : Node) → TurnsBack (S s) o p i (N n) → TurnsBack s o p i n
  turned s o p i n h = (h.0, h.1, apart f one (follow s h.0 n) (node.Field o h.1) (follows f s h.0 n ∙ h.2), h.3)

  behind_at : (k : ℕ) (ns : List Node) → map N (absent k ++ ns) ≡ absent k ++ map N ns
  behind_at zero ns = refl
  behind_at (suc k) ns = ap (λ (xs : List Node). node.Broken NotACapability ∷ xs) (behind_at k ns)

  module _ (o : ℕ) (who : Caller) (hs : List HeldCall) (p : Payload) where
    is_behind : (s : State) (i : ℕ) (ns : List Node) → S (behind s o who hs p i ns) ≡ behind (S s) o who (map (held_by f) hs) p i (map N ns)
    is_behind s i ns =
        knows s o who hs (value.Results p (absent (suc i) ++ ns))
        ∙ ap (λ (xs : List Node). known (S s) o who (map (held_by f) hs) (value.Results p xs)) (behind_at (suc i) ns)

    puts_in : (s : State) (i : ℕ) (n : Node) (rest out : List Node) (new : State) → PutsIn s o who hs p i n rest out new → PutsIn (S s) o who (map (held_by f) hs) p i (N n) (map N rest) (map N out) (S new)
    puts_in s i n rest out new (inl h) = inl (
      (λ t. h.0 (turned (behind s o who hs p i rest) o p i n (subst (λ (x : State). TurnsBack x o p i (N n)) (sym (is_behind s i rest)) t))),
      ap (map N) h.1,
      ap S h.2,
    )
    puts_in s i n rest out new (inr h) =
        let k = h.1 in
        inr (
          subst (λ (x : State). TurnsBack x o p i (N n)) (is_behind s i rest) (turns (behind s o who hs p i rest) o p i n h.0),
          (k.0, free_in (promise_by f) s.promises k.0 k.1, ap (map N) k.2, ap S k.3 ∙ put_promise f s k.0 (promise.Open [])),
        )

    untangles : (s : State) (i : ℕ) (ns out : List Node) (new : State) → Untangles s o who hs p i ns out new → Untangles (S s) o who (map (held_by f) hs) p i (map N ns) (map N out) (S new)
    untangles s i [] out new h = (ap (map N) h.0, ap S h.1)
    untangles s i (n ∷ ns) out new h = (map N h.0, S h.1, untangles s (i + 1) ns h.0 h.1 h.2, puts_in h.1 i n h.0 out new h.3)

  pub fits : (s : State) (o : ℕ) (who : Caller) (hs : List HeldCall) (v fit : Value) (new : State) → Fits s o who hs v fit new → Fits (state_by f s) o who (map (held_by f) hs) (value_by f v) (value_by f fit) (state_by f new)
  fits s o who hs (value.Exception e) fit new h = (ap (value_by f) h.0, ap S h.1)
  fits s o who hs (value.Results p caps) fit new h = (map N h.0, ap (value_by f) h.1, untangles o who hs p s 0 caps h.0 new h.2)
