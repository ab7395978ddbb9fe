-- The value that an outcome takes is alike in both: no capability leads to itself.
use Rattle.std.proofs.Common.{◌≡◌, inl, inr, ℕ, zero, suc, ◌+◌, Bool, true, false, List, [], ◌∷◌, ◌++◌, map, Some, refl, sym, ap, subst, ◌∙◌}
use native.Mathlib.Omega.{arith}
use Rattle.std.specs.FinMap as finite
use Rattle.rpc_msg.specs.CapAt.{CapAt}
use Rattle.rpc_msg.specs.CapAt.TheVariants.{Cap}
use Rattle.rpc_machine.specs.declared.node.Node.{Node}
use Rattle.rpc_machine.specs.declared.node.Node.TheVariants as node
use Rattle.rpc_machine.specs.declared.node.Reason.TheVariants.{NotACapability}
use Rattle.rpc_machine.specs.declared.calls.Value.{Value}
use Rattle.rpc_machine.specs.declared.calls.Value.TheVariants as value
use Rattle.rpc_machine.specs.declared.calls.Caller.{Caller}
use Rattle.rpc_machine.specs.State.{State}
use Rattle.rpc_machine.specs.Nodes.{follow}
use Rattle.rpc_machine.specs.Settling.{known, TurnsBack, absent, behind, PutsIn, Untangles, Fits}
use Rattle.laws_wired.specs.Contents.{EachLost}
use Rattle.laws_wired.specs.Pairs.{TwoContents, TwoNodes, OneNode, IsBroken, TwoHeld, TwoValues, Results, Failure, Open, TwoStates, node_at, held_at, value_at, promise_at, state_at}
use Rattle.laws_wired.proofs.Contents.{CapsAlike, Kept, Lost, Nulls, Others, Past, caps_alike}
use Rattle.laws_wired.proofs.Settles.{is_one, follow2, follows, stays_broken}
use Rattle.laws_wired.proofs.Going.{put_promise, put_outcome, free_in}

abbrev pub known2 : TwoStates → ℕ → Caller → List TwoHeld → TwoValues → TwoStates
known2 z o who hs w = record z { outcomes = finite.insert z.outcomes o (record { caller = who; value = Some w; waiting = hs }) }

pub knows : (b : Bool) (z : TwoStates) (o : ℕ) (who : Caller) (hs : List TwoHeld) (w : TwoValues)
    → state_at b (known2 z o who hs w) ≡ known (state_at b z) o who (map (held_at b) hs) (value_at b w)
knows b z o who hs w = put_outcome b z o (record { caller = who; value = Some w; waiting = hs })

apart : true ≡ false → ⊥
apart e = cc

-- ---- which capabilities turn back

-- A path that finds a capability over the wire finds it in one world, and the other way round if it is not lost.
found_true : {lost : ℕ → Bool} {x y : CapAt} (i : ℕ) → CapsAlike lost x y → x ≡ Cap i → (y ≡ Cap i) × (lost i ≡ false)
found_true {lost} i (Kept j e) h = let f : j ≡ i = cc in (h, ap lost (sym f) ∙ e)
found_true i (Lost j e) h = cc
found_true i Nulls h = cc
found_true i Others h = cc
found_true i Past h = cc

found_false : {lost : ℕ → Bool} {x y : CapAt} (i : ℕ) → CapsAlike lost x y → y ≡ Cap i → lost i ≡ false → x ≡ Cap i
found_false i (Kept j e) h f = h
found_false {lost} i (Lost j e) h f =
    let g : j ≡ i = cc in
    let t : lost i ≡ true = ap lost (sym g) ∙ e in
    cc
found_false i Nulls h f = cc
found_false i Others h f = cc
found_false i Past h f = cc

module _ (z : TwoStates) (o : ℕ) (x : TwoContents) (i : ℕ) (m : TwoNodes) where
  turns_true : TurnsBack (state_at false z) o (x.at false) i (node_at false m) → TurnsBack (state_at true z) o (x.at true) i (node_at true m)
  turns_true h =
      let n = follow2 z h.0 m in (
        h.0,
        h.1,
        sym (follows true z h.0 m) ∙ is_one n (node.Field o h.1) (λ r e. cc) false true (follows false z h.0 m ∙ h.2),
        (found_true i (caps_alike x h.1) h.3).0,
      )

  is_kept : TurnsBack (state_at false z) o (x.at false) i (node_at false m) → x.lost i ≡ false
  is_kept h = (found_true i (caps_alike x h.1) h.3).1

  turns_false : (x.lost i ≡ true → IsBroken m) → TurnsBack (state_at true z) o (x.at true) i (node_at true m) → TurnsBack (state_at false z) o (x.at false) i (node_at false m)
  turns_false gone h = by (x.lost i) refl
    where
      by : (b : Bool) → x.lost i ≡ b → TurnsBack (state_at false z) o (x.at false) i (node_at false m)
      by true e =
          let g = gone e in
          let f : node.Broken g.0 ≡ node.Field o h.1 = sym (ap (follow (state_at true z) h.0) g.1 ∙ stays_broken (state_at true z) h.0 g.0) ∙ h.2 in
          cc
      by false e = (
        h.0,
        h.1,
        sym (follows false z h.0 m) ∙ is_one (follow2 z h.0 m) (node.Field o h.1) (λ r e. cc) true false (follows true z h.0 m ∙ h.2),
        found_false i (caps_alike x h.1) h.3 e,
      )

-- ---- capabilities that do not stand yet

abbrev absent2 : ℕ → List TwoNodes
absent2 zero = []
absent2 (suc k) = OneNode (node.Broken NotACapability) ∷ absent2 k

behind_at : (b : Bool) (k : ℕ) (ms : List TwoNodes) → map (node_at b) (absent2 k ++ ms) ≡ absent k ++ map (node_at b) ms
behind_at b zero ms = refl
behind_at b (suc k) ms = ap (λ (ns : List Node). node.Broken NotACapability ∷ ns) (behind_at b k ms)

-- What is lost of those from the index k on.
abbrev from_on : ℕ → (ℕ → Bool) → ℕ → Bool
from_on zero lost i = lost i
from_on (suc k) lost i = from_on k (λ j. lost (suc j)) i

behind_lost : (k : ℕ) (lost : ℕ → Bool) (ms : List TwoNodes) → EachLost IsBroken ms (from_on k lost) → EachLost IsBroken (absent2 k ++ ms) lost
behind_lost zero lost ms h i e = h i e
behind_lost (suc k) lost ms h zero e = (NotACapability, refl)
behind_lost (suc k) lost ms h (suc i) e = behind_lost k (λ j. lost (suc j)) ms h i e

first_on : (k : ℕ) (lost : ℕ → Bool) → from_on k lost zero ≡ lost k
first_on zero lost = refl
first_on (suc k) lost = first_on k (λ j. lost (suc j))

next_on : (k : ℕ) (lost : ℕ → Bool) (i : ℕ) → from_on k lost (suc i) ≡ from_on (suc k) lost i
next_on zero lost i = refl
next_on (suc k) lost i = next_on k (λ j. lost (suc j)) i

-- One more, before those that are there.
one_lost : (k : ℕ) (lost : ℕ → Bool) (m : TwoNodes) (ms : List TwoNodes)
    → (lost k ≡ true → IsBroken m) → EachLost IsBroken ms (from_on (suc k) lost) → EachLost IsBroken (m ∷ ms) (from_on k lost)
one_lost k lost m ms h more zero e = h (sym (first_on k lost) ∙ e)
one_lost k lost m ms h more (suc i) e = more i (sym (next_on k lost i) ∙ e)

-- ---- no capability leads to itself

module _ (o : ℕ) (who : Caller) (hs : List TwoHeld) (x : TwoContents) where
  abbrev Put2 : TwoStates → ℕ → List Node → State → (List Node → State → Type 0) → Type 0
  Put2 z i out new Q = (ms : List TwoNodes) × (y : TwoStates) × (out ≡ map (node_at false) ms) × (new ≡ state_at false y) × EachLost IsBroken ms (from_on i x.lost) × Q (map (node_at true) ms) (state_at true y)

  abbrev behind2 : TwoStates → (i : ℕ) (ms : List TwoNodes) → EachLost IsBroken ms (from_on (suc i) x.lost) → TwoStates
  behind2 z i ms more = known2 z o who hs (Results x (absent2 (suc i) ++ ms) (behind_lost (suc i) x.lost ms more))

  is_behind : (b : Bool) (z : TwoStates) (i : ℕ) (ms : List TwoNodes) (more : EachLost IsBroken ms (from_on (suc i) x.lost))
      → state_at b (behind2 z i ms more) ≡ behind (state_at b z) o who (map (held_at b) hs) (x.at b) i (map (node_at b) ms)
  is_behind b z i ms more =
      knows b z o who hs (Results x (absent2 (suc i) ++ ms) (behind_lost (suc i) x.lost ms more))
      ∙ ap (λ (ns : List Node). known (state_at b z) o who (map (held_at b) hs) (value.Results (x.at b) ns)) (behind_at b (suc i) ms)

  module _ (z : TwoStates) (i : ℕ) (m : TwoNodes) (ms : List TwoNodes) (gone : x.lost i ≡ true → IsBroken m) (more : EachLost IsBroken ms (from_on (suc i) x.lost)) where
    turns_over : TurnsBack (behind (state_at false z) o who (map (held_at false) hs) (x.at false) i (map (node_at false) ms)) o (x.at false) i (node_at false m)
        → TurnsBack (state_at false (behind2 z i ms more)) o (x.at false) i (node_at false m)
    turns_over t = subst (λ (s : State). TurnsBack s o (x.at false) i (node_at false m)) (sym (is_behind false z i ms more)) t

    puts_in : (out : List Node) (new : State)
        → PutsIn (state_at false z) o who (map (held_at false) hs) (x.at false) i (node_at false m) (map (node_at false) ms) out new
        → Put2 z i out new (PutsIn (state_at true z) o who (map (held_at true) hs) (x.at true) i (node_at true m) (map (node_at true) ms))
    puts_in out new (inl h) = (
      m ∷ ms,
      z,
      h.1,
      h.2,
      one_lost i x.lost m ms gone more,
      inl (
        (λ t. h.0 (subst (λ (s : State). TurnsBack s o (x.at false) i (node_at false m)) (is_behind false z i ms more)
            (turns_false (behind2 z i ms more) o x i m gone (subst (λ (s : State). TurnsBack s o (x.at true) i (node_at true m)) (sym (is_behind true z i ms more)) t)))),
        refl,
        refl,
      ),
    )
    puts_in out new (inr h) =
        let k = h.1 in
        let t = turns_over h.0 in
        let kept = is_kept (behind2 z i ms more) o x i m t in (
          OneNode (node.Promise k.0) ∷ ms,
          record z { promises = finite.insert z.promises k.0 (Open []) },
          k.2,
          k.3 ∙ sym (put_promise false z k.0 (Open [])),
          one_lost i x.lost (OneNode (node.Promise k.0)) ms (λ e. absurd (apart (sym e ∙ kept))) more,
          inr (
            subst (λ (s : State). TurnsBack s o (x.at true) i (node_at true m)) (is_behind true z i ms more) (turns_true (behind2 z i ms more) o x i m t),
            (k.0, free_in (promise_at false) (promise_at true) z.promises k.0 k.1, refl, put_promise true z k.0 (Open [])),
          ),
        )

  untangles : (z : TwoStates) (i : ℕ) (ms : List TwoNodes) (out : List Node) (new : State) → EachLost IsBroken ms (from_on i x.lost)
      → Untangles (state_at false z) o who (map (held_at false) hs) (x.at false) i (map (node_at false) ms) out new
      → Put2 z i out new (Untangles (state_at true z) o who (map (held_at true) hs) (x.at true) i (map (node_at true) ms))
  untangles z i [] out new gone h = ([], z, h.0, h.1, gone, (refl, refl))
  untangles z i (m ∷ ms) out new gone h =
      let after : suc i ≡ i + 1 = omega arith in
      let rest_gone : EachLost IsBroken ms (from_on (suc i) x.lost) = λ j e. gone (suc j) (next_on i x.lost j ∙ e) in
      let k = untangles z (i + 1) ms h.0 h.1 (subst (λ (n : ℕ). EachLost IsBroken ms (from_on n x.lost)) after rest_gone) h.2 in
      let more : EachLost IsBroken k.0 (from_on (suc i) x.lost) = subst (λ (n : ℕ). EachLost IsBroken k.0 (from_on n x.lost)) (sym after) k.4 in
      let r = puts_in k.1 i m k.0 (λ e. gone zero (first_on i x.lost ∙ e)) more out new
      (subst (λ (s : State). PutsIn s o who (map (held_at false) hs) (x.at false) i (node_at false m) (map (node_at false) k.0) out new) k.3
      (subst (λ (ns : List Node). PutsIn h.1 o who (map (held_at false) hs) (x.at false) i (node_at false m) ns out new) k.2 h.3)) in
      (r.0, r.1, r.2, r.3, r.4, (map (node_at true) k.0, state_at true k.1, k.5, r.5))

abbrev pub Fits2 : TwoStates → ℕ → Caller → List TwoHeld → TwoValues → Value → State → Type 0
Fits2 z o who hs w fit new =
    (v : TwoValues) × (y : TwoStates) × (fit ≡ value_at false v) × (new ≡ state_at false y)
    × Fits (state_at true z) o who (map (held_at true) hs) (value_at true w) (value_at true v) (state_at true y)

pub fits : (z : TwoStates) (o : ℕ) (who : Caller) (hs : List TwoHeld) (w : TwoValues) (fit : Value) (new : State)
    → Fits (state_at false z) o who (map (held_at false) hs) (value_at false w) fit new → Fits2 z o who hs w fit new
fits z o who hs (Failure e) fit new h = (Failure e, z, h.0, h.1, (refl, refl))
fits z o who hs (Results x caps gone) fit new h =
    let k = untangles o who hs x z 0 caps h.0 new gone h.2 in
    (Results x k.0 k.4, k.1, h.1 ∙ ap (value.Results (x.at false)) k.2, k.3, (map (node_at true) k.0, refl, k.5))
