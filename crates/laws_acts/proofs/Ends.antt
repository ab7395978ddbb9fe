-- The end of a step is a list of acts, after which nothing is owed.
use Rattle.std.proofs.Common.{◌≡◌, ℕ, Bool, true, false, nat_eq, List, [], ◌∷◌, ◌++◌, Option, None, Some, refl, sym, ap, subst, ◌∙◌, T}
use Rattle.std.proofs.lemmas.List.{append-nil, append_assoc}
use Rattle.std.specs.Ordering.{nat_cmp, eq_by_cmp}
use Rattle.std.specs.FinMap as map
use Rattle.std.specs.FinMap.Entries as entries
use Rattle.finite_maps.specs.Tally.{Map}
use Rattle.finite_maps.proofs.Gets.{get-insert_same, get-insert_other, get-remove_other}
use Rattle.rpc_machine.specs.declared.calls.OwnCall.{OwnCall}
use Rattle.rpc_machine.specs.declared.command.Effects.{Effects}
use Rattle.rpc_machine.specs.declared.entries.Role.{Role}
use Rattle.rpc_machine.specs.declared.entries.Role.TheVariants as role
use Rattle.rpc_machine.specs.declared.entries.Finishing.{Finishing}
use Rattle.rpc_machine.specs.declared.entries.Finishing.TheVariants as finishing
use Rattle.rpc_machine.specs.declared.entries.Returned.{Returned}
use Rattle.rpc_machine.specs.declared.entries.Question.{Question}
use Rattle.rpc_machine.specs.State.{State}
use Rattle.rpc_machine.specs.Progress.{Progress, with_state}
use Rattle.rpc_machine.specs.Collecting.{IsTight, Collects}
use Rattle.rpc_machine.specs.Flags.{give_back}
use Rattle.rpc_machine.specs.Sweeping.{IsOver, IsNotSent, closed_map, closed, Withers, Over, Thing, Asked, got_of, finished_by, FinishesEach, release_each, Sweeps as SweepsAll}
use Rattle.rpc_machine.specs.Steps.{Ends}
use Rattle.laws_acts.specs.Moments.{Moment, at_rest, onto, is_collecting}
use Rattle.laws_acts.specs.SmallActs.{IsDue, release_messages, Sweeps as SweepsOver, SendsFinish, Closes, Releases, Acts, NoMore, Then, IsEnd}
use Rattle.laws_acts.proofs.Alone.{back_alone}
use Rattle.laws_acts.proofs.Exact.{sends_finish}
use Rattle.laws_acts.proofs.Pieces.{then, one, collects, tight_then, untouched, goes_by, drained}
use Rattle.finite_maps.proofs.Tested.{equal, apart, untied}
use Rattle.finite_maps.proofs.Sorted.{behind, first_entry, later_entry, sorted_tail}

-- ---- The questions that are over

-- It is there, its Finish was not sent, and it is to be finished.
abbrev pub IsToEnd : State → ℕ → Question → Type 0
IsToEnd s q x = (map.get s.questions q ≡ Some x) × IsNotSent x.finish × IsDue s x.role x.returned

due_in : (s t : State) (r : Role) (o : Option Returned) → t.calls ≡ s.calls → IsDue s r o → IsDue t r o
due_in s t (role.Relay k) o e h = h
due_in s t (role.Direct c) o e h = ap (λ (m : Map OwnCall). map.get m c.0) e ∙ h

due_of : (s : State) (q : ℕ) (x : Question) (r : Role) → IsOver s q x r → IsDue s r x.returned
due_of s q x (role.Relay k) h = h
due_of s q x (role.Direct c) h = h.0

pub closed_other : (m : Map Question) (q : ℕ) (x : Question) (o : Option Returned) (k : ℕ) → nat_eq k q ≡ false → map.get (closed_map m q x o) k ≡ map.get m k
closed_other m q x None k e = get-insert_other m q (record x { finish = finishing.Sent }) k (apart k q e)
closed_other m q x (Some said) k e = get-remove_other m q k (apart k q e)

pub withers_from : (d : Progress) (over : Map Question) → Withers d over → (q : ℕ) (x : Question) → map.get over q ≡ Some x → IsToEnd d.state q x
withers_from d over (Over tight none) q x e = absurd (let bad : None ≡ Some x = sym (map.get-empty nat_cmp q) ∙ e in cc)
withers_from d over (Thing {mid = mid} g rest) q x e =
    let h = withers_from mid over rest q x e in
    let u = goes_by d mid g in
    (ap (λ (m : Map Question). map.get m q) (sym u.questions) ∙ h.0, h.1, due_in mid.state d.state x.role x.returned (sym u.calls) h.2)
withers_from d over (Asked {over = others} k y there due rest) q x e = by (withers_from (with_state d (closed d.state k y)) others rest q x) (nat_eq q k) refl
  where
    by : (map.get others q ≡ Some x → IsToEnd (closed d.state k y) q x) → (b : Bool) → nat_eq q k ≡ b → IsToEnd d.state q x
    by before false f = let h = before (sym (get-insert_other others k y q (apart q k f)) ∙ e) in (sym (closed_other d.state.questions k y y.returned q f) ∙ h.0, h.1, due_in (closed d.state k y) d.state x.role x.returned refl h.2)
    by before true f =
        let j : q ≡ k = equal q k f in
        let same : Some y ≡ Some x = sym (get-insert_same others k y) ∙ ap (map.get (map.insert others k y)) (sym j) ∙ e in
        let z : y ≡ x = cc in
        (ap (map.get d.state.questions) j ∙ there ∙ same, subst (λ (u : Question). IsNotSent u.finish) z due.0, subst (λ (u : Question). IsDue d.state u.role u.returned) z (due_of d.state k y y.role due.1))

-- ---- They are finished

abbrev over_with : Moment → Progress → List (ℕ × Question) → Moment
over_with m p xs = record (onto m p) { over = xs }

ends_one : (m : Moment) (d : Progress) (q : ℕ) (x : Question) (rest : List (ℕ × Question)) (f : Finishing) → x.finish ≡ f → IsToEnd d.state q x → IsTight d.state → Acts (over_with m (finished_by d q x f) rest) (over_with m d ((q, x) ∷ rest))
ends_one m d q x rest finishing.Owed e h t = one _ _ (SendsFinish q x rest refl h.0 e h.2 t (ap (λ (p : Progress). over_with m p rest) (sends_finish d q x)))
ends_one m d q x rest finishing.Sent e h t = absurd (subst IsNotSent e h.1)
ends_one m d q x rest finishing.Waived e h t = one _ _ (Closes q x rest refl h.0 e h.2 t refl)

back_questions : (s : State) (ids : List ℕ) → (give_back s ids).questions ≡ s.questions
back_questions s ids = ap (λ (u : State). u.questions) (back_alone s ids)

back_calls : (s : State) (ids : List ℕ) → (give_back s ids).calls ≡ s.calls
back_calls s ids = ap (λ (u : State). u.calls) (back_alone s ids)

finished_calls : (d : Progress) (q : ℕ) (x : Question) (f : Finishing) → (finished_by d q x f).state.calls ≡ d.state.calls
finished_calls d q x finishing.Owed = back_calls d.state (got_of x.returned)
finished_calls d q x finishing.Sent = refl
finished_calls d q x finishing.Waived = refl

pub finished_other : (d : Progress) (q : ℕ) (x : Question) (f : Finishing) (k : ℕ) → nat_eq k q ≡ false → map.get (finished_by d q x f).state.questions k ≡ map.get d.state.questions k
finished_other d q x finishing.Owed k e = closed_other _ q x x.returned k e ∙ ap (λ (m : Map Question). map.get m k) (back_questions d.state (got_of x.returned))
finished_other d q x finishing.Sent k e = refl
finished_other d q x finishing.Waived k e = closed_other d.state.questions q x x.returned k e

finished_arisen : (d : Progress) (q : ℕ) (x : Question) (f : Finishing) → (finished_by d q x f).arisen ≡ d.arisen
finished_arisen d q x finishing.Owed = refl
finished_arisen d q x finishing.Sent = refl
finished_arisen d q x finishing.Waived = refl

-- Each of these is still to be finished.
abbrev pub Rest : State → List (ℕ × Question) → Type 0
Rest s xs = (q : ℕ) (x : Question) → entries.find nat_cmp q xs ≡ Some x → IsToEnd s q x

-- That holds while others go and are finished.
keeps_end : (s t : State) (q : ℕ) (x : Question) → t.calls ≡ s.calls → map.get t.questions q ≡ map.get s.questions q → IsToEnd s q x → IsToEnd t q x
keeps_end s t q x c f h = (f ∙ h.0, h.1, due_in s t x.role x.returned c h.2)

module _ (d mid : Progress) (col : Collects mid d) where
  pub col_end : (q : ℕ) (x : Question) → IsToEnd d.state q x → IsToEnd mid.state q x
  col_end q x h = let u = untouched mid d col in keeps_end d.state mid.state q x u.calls (ap (λ (n : Map Question). map.get n q) u.questions) h

  pub after_rest : (e : ℕ × Question) (es : List (ℕ × Question)) → T (entries.below_all nat_cmp e.0 es) → Rest d.state (e ∷ es) → Rest (finished_by mid e.0 e.1 e.1.finish).state es
  after_rest e es b r q x f =
      let c : eq_by_cmp nat_cmp q e.0 ≡ false = behind e.0 es q x b f in
      let g : nat_eq q e.0 ≡ false = untied q e.0 c in
      let h = r q x (later_entry e es q c ∙ f) in
      keeps_end mid.state (finished_by mid e.0 e.1 e.1.finish).state q x (finished_calls mid e.0 e.1 e.1.finish) (finished_other mid e.0 e.1 e.1.finish q g) (col_end q x h)

finishes_each : (m : Moment) (d : Progress) (xs : List (ℕ × Question)) (new : Progress) → is_collecting m ≡ true → T (entries.is_sorted nat_cmp xs) → Rest d.state xs → FinishesEach d xs new → Acts (over_with m new []) (over_with m d xs) × (new.arisen ≡ d.arisen)
finishes_each m d [] new w o r h = rw h (NoMore, refl)
finishes_each m d (e ∷ es) new w o r h =
    let mid = h.0 in
    let s = sorted_tail e.0 es o in
    let next = finished_by mid e.0 e.1 e.1.finish in
    let here : IsToEnd d.state e.0 e.1 = r e.0 e.1 (first_entry e es) in
    let k = finishes_each m next es new w s.1 (after_rest d mid h.1 e es s.0 r) h.2 in
    let u = untouched mid d h.1 in (
      then _ (over_with m mid (e ∷ es)) _ (collects (over_with m d (e ∷ es)) mid d w h.1)
          (then _ (over_with m next es) _ (ends_one m mid e.0 e.1 es e.1.finish refl (col_end d mid h.1 e.0 e.1 here) (tight_then mid d h.1)) k.0),
      k.1 ∙ finished_arisen mid e.0 e.1 e.1.finish ∙ u.arisen,
    )

-- ---- The Releases

pub released : (d : Progress) (xs : List (ℕ × ℕ)) → release_each d xs ≡ record d { effects = record (d.effects) { sends = d.effects.sends ++ release_messages xs } }
released d [] = ap (λ ms. record d { effects = record (d.effects) { sends = ms } }) (sym (append-nil d.effects.sends))
released d (x ∷ xs) =
    released _ xs ∙ ap (λ ms. record d { effects = record (d.effects) { sends = ms } }) (append_assoc d.effects.sends (release_messages (x ∷ [])) (release_messages xs))

swept : (d new : Progress) → d.arisen ≡ [] → SweepsAll d new → Acts (record (at_rest new) { swept = true }) (at_rest d) × (new.arisen ≡ []) × (new.released ≡ map.empty) × IsTight new.state
swept d new a h =
    let over = h.0 in
    let g = h.2 in
    let k = g.2 in
    let xs = map.entries over in
    let all : Rest d.state xs = λ q x e. withers_from d over h.1 q x (map.get-entries over q ∙ e) in
    let now : Moment = record (at_rest d) { swept = true } in
    let ends = finishes_each now d xs g.0 refl (map.entries_sorted over) all g.1 in
    let u = untouched k.0 g.0 k.1 in
    let out = released k.0 (map.entries k.0.released) in
    rw (k.2, out) (
      Then (SweepsOver over refl a h.1 refl)
          (then _ (onto now g.0) _ ends.0
          (then _ (onto now k.0) _ (collects now k.0 g.0 refl k.1)
          (one _ _ (Releases refl refl (tight_then k.0 g.0 k.1) refl)))),
      u.arisen ∙ ends.1 ∙ a,
      refl,
      tight_then k.0 g.0 k.1,
    )

-- All that follows the first act.
pub ended : (acted : Progress) (x : Effects) (t : State) → Ends acted x t → (last : Moment) × Acts last (at_rest acted) × IsEnd last x t
ended acted x t h =
    let a = drained h.drained acted h.drains in
    let b = swept h.drained h.swept a.1 h.sweeps in
    (record (at_rest h.swept) { swept = true }, then _ (at_rest h.drained) _ a.0 b.0, record { state = h.new_is; effects = h.effects_are; rest = refl; arisen = b.1; released = b.2; tight = b.3 })
