-- The capabilities of an outcome that are put in place, the last first.
use Rattle.std.proofs.lemmas.List.{take_all, drop_all, take_more, drop_more, take-set, drop-set, length-set, append_assoc, append-nil}
use Rattle.std.proofs.Common.{◌≡◌, ◌<◌, ◌++◌, inl, inr, ℕ, ◌+◌, true, false, List, [], ◌∷◌, None, take, drop, length, set, get_or, refl, sym, ap, subst, ◌∙◌, arith}
use Rattle.std.specs.FinMap as map
use Rattle.rpc_msg.specs.Payloads.{Contents as Payload}
use Rattle.rpc_machine.specs.declared.node.Node.{Node}
use Rattle.rpc_machine.specs.declared.node.Node.TheVariants as node
use Rattle.rpc_machine.specs.State.{State}
use Rattle.rpc_machine.specs.Progress.{Progress, with_state}
use Rattle.core_step_settles.specs.Circles.{Turns, NeverTurns, TurnsIf, UntanglesWith, SoFar, with_promise, with_promises}

-- ---- From the end to the front

fewer_front : (now : List Node) (j : ℕ) (n : Node) (rest : List Node) → j < length now → get_or now j n ≡ n → take (j + 1) now ++ rest ≡ take j now ++ n ∷ rest
fewer_front now j n rest h g =
    ap (λ (xs : List Node). xs ++ rest) (take_more now j n h ∙ ap (λ (m : Node). take j now ++ m ∷ []) g) ∙ append_assoc (take j now) (n ∷ []) rest

module _ (s : State) (o : ℕ) (payload : Payload) (caps : List Node) where
  pub begins : (now : List Node) (n : ℕ) → now ≡ caps → n ≡ length now → SoFar s o payload caps now n s
  begins now n is e =
      let none : drop n now ≡ [] = drop_all n now (omega (arith, e)) in
      (omega (arith, e), ([], sym is ∙ sym (append-nil (take n now) ∙ take_all n now (omega (arith, e))), λ who w. (none, refl)))

  pub left_so_far : (now : List Node) (i j : ℕ) (t : State) (n : Node) (rest : List Node) → i ≡ j + 1 → get_or now j n ≡ n → rest ≡ drop (j + 1) now → SoFar s o payload caps now i t → TurnsIf false t o payload j rest n
      → SoFar s o payload caps now j t
  left_so_far now i j t n rest e g is h never =
      let k : SoFar s o payload caps now (j + 1) t = subst (λ (l : ℕ). SoFar s o payload caps now l t) e h in
      let within : j < length now = omega (arith, k.0) in
      let b = k.1 in
      let split : drop j now ≡ n ∷ drop (j + 1) now = drop_more now j n within ∙ ap (λ (m : Node). m ∷ drop (j + 1) now) g in
      let stays : NeverTurns t o payload j (drop (j + 1) now) n = subst (λ (xs : List Node). NeverTurns t o payload j xs n) is never in (
        omega (arith, within),
        (
          n ∷ b.0,
          b.1 ∙ fewer_front now j n b.0 within g,
          subst (λ (xs : List Node). UntanglesWith s o payload j (n ∷ b.0) xs t) (sym split) (λ who w. (drop (j + 1) now, t, b.2 who w, inl (stays who w, refl, refl))),
        ),
      )

  pub turned_so_far : (now : List Node) (i j : ℕ) (t : State) (n : Node) (rest : List Node) (p : ℕ) (u : State) (new : List Node) → i ≡ j + 1 → get_or now j n ≡ n → rest ≡ drop (j + 1) now → SoFar s o payload caps now i t
      → TurnsIf true t o payload j rest n → map.get t.promises p ≡ None → u ≡ with_promise t p → new ≡ set now j (node.Promise p) → SoFar s o payload caps new j u
  turned_so_far now i j t n rest p u new e g is h turns free made put =
      let k : SoFar s o payload caps now (j + 1) t = subst (λ (l : ℕ). SoFar s o payload caps now l t) e h in
      let within : j < length now = omega (arith, k.0) in
      let b = k.1 in
      let to : Node = node.Promise p in
      let split : drop j (set now j to) ≡ to ∷ drop (j + 1) now = drop-set now j to within in
      let goes : Turns t o payload j (drop (j + 1) now) n = subst (λ (xs : List Node). Turns t o payload j xs n) is turns in
      subst (λ (v : State). SoFar s o payload caps new j v) (sym made)
      (subst (λ (xs : List Node). SoFar s o payload caps xs j (with_promise t p)) (sym put) (
        omega (arith, within, length-set now j to),
        (
          n ∷ b.0,
          b.1 ∙ fewer_front now j n b.0 within g ∙ ap (λ (xs : List Node). xs ++ n ∷ b.0) (sym (take-set now j to)),
          subst (λ (xs : List Node). UntanglesWith s o payload j (n ∷ b.0) xs (with_promise t p)) (sym split) (λ who w. (drop (j + 1) now, t, b.2 who w, inr (goes who w, (p, free, refl, refl)))),
        ),
      ))

  pub ended : (now : List Node) (i : ℕ) (t : State) → i ≡ 0 → SoFar s o payload caps now i t → UntanglesWith s o payload 0 caps now t
  ended now i t none h =
      let b = (let k : SoFar s o payload caps now 0 t = subst (λ (j : ℕ). SoFar s o payload caps now j t) none h in k.1) in
      subst (λ (xs : List Node). UntanglesWith s o payload 0 xs now t) (sym b.1) b.2

-- Of the step only promises changed, and one more does.
pub only_more : (d x y : Progress) (p : ℕ) → x ≡ with_promises d x.state.promises → y ≡ with_state x (with_promise x.state p) → y ≡ with_promises d y.state.promises
only_more d x y p is made =
    made ∙ ap (λ (q : Progress). with_state q (with_promise q.state p)) is ∙ ap (with_promises d) (sym (ap (λ (q : Progress). q.state.promises) made))
