-- The end of a step is the same with other numbers.
use Rattle.std.proofs.Common.{◌≡◌, ℕ, List, [], ◌∷◌, map, Option, None, Some, refl, sym, ap, subst, ◌∙◌}
use Rattle.finite_maps.proofs.Values.{entries-map_values, get-map_values, map_values-insert, map_values-empty}
use Rattle.std.specs.FinMap as finite
use Rattle.finite_maps.specs.Tally.{Map, map_values, option_changed, changed_each}
use Rattle.rpc_msg.specs.declared.ids.ObjectId.{ObjectId}
use Rattle.rpc_msg.specs.declared.parts.Descriptor.{Descriptor}
use Rattle.rpc_msg.specs.declared.message.PlainMessage.TheVariants as plain
use Rattle.rpc_machine.specs.declared.node.Node.{Node}
use Rattle.rpc_machine.specs.declared.entries.Role.{Role}
use Rattle.rpc_machine.specs.declared.entries.Role.TheVariants as role
use Rattle.rpc_machine.specs.declared.entries.Finishing.{Finishing}
use Rattle.rpc_machine.specs.declared.entries.Finishing.TheVariants as finishing
use Rattle.rpc_machine.specs.declared.entries.Returned.{Returned}
use Rattle.rpc_machine.specs.declared.entries.Returned.TheVariants as back
use Rattle.rpc_machine.specs.declared.entries.Question.{Question}
use Rattle.rpc_machine.specs.declared.command.Effects.{Effects}
use Rattle.rpc_machine.specs.State.{State}
use Rattle.laws_numbers_hidden.specs.Renamed.{beside_by, returned_by, question_by, state_by, effects_by}
use Rattle.laws_numbers_hidden.specs.Steps.{KeepsApart}
use Rattle.rpc_msg.specs.Messages.{given}
use Rattle.rpc_machine.specs.Nodes.{is_pipe}
use Rattle.rpc_machine.specs.Progress.{Progress, with_state, send, export_id}
use Rattle.rpc_machine.specs.Flags.{flag_for, give_back}
use Rattle.rpc_machine.specs.Steps.{Ends}
use Rattle.rpc_machine.specs.Sweeping.{IsOver, IsToFinish, closed_map, closed, Withers, Over, Thing, Asked, descriptors_said, got_of, finished_by, FinishesEach, release_each, releases, Sweeps}
use Rattle.std.specs.Prelude.{IsSome}
use Rattle.laws_numbers_hidden.proofs.Going.{progress_by, put_question, cut_question}
use Rattle.laws_numbers_hidden.proofs.Collected.{unnamed, unnamed_before, tight, goes, collects, same_flag, gives}
use Rattle.laws_numbers_hidden.proofs.Settled.{drains}

module _ (f : ObjectId → ObjectId) where
  abbrev S : State → State
  S = state_by f

  abbrev P : Progress → Progress
  P = progress_by f

  abbrev Q : Question → Question
  Q = question_by f

  module _ (s : State) where
    some_as : (o : Option Returned) → IsSome o → IsSome (option_changed (returned_by f) o)
    some_as None h = h
    some_as (Some x) h = h

    some_before : (o : Option Returned) → IsSome (option_changed (returned_by f) o) → IsSome o
    some_before None h = h
    some_before (Some x) h = h

    over_as : (q : ℕ) (x : Question) (r : Role) → IsOver s q x r → IsOver (S s) q (Q x) r
    over_as q x (role.Relay o) h = some_as x.returned h
    over_as q x (role.Direct c) h = (h.0, unnamed f s (is_pipe q) (λ o x. refl) h.1)

    over_before : (q : ℕ) (x : Question) (r : Role) → IsOver (S s) q (Q x) r → IsOver s q x r
    over_before q x (role.Relay o) h = some_before x.returned h
    over_before q x (role.Direct c) h = (h.0, unnamed_before f s (is_pipe q) (λ o x. refl) h.1)

    finish_as : (q : ℕ) (o : Option Question) → IsToFinish s q o → IsToFinish (S s) q (option_changed Q o)
    finish_as q None h = absurd h
    finish_as q (Some x) h = (h.0, over_as q x x.role h.1)

    finish_before : (q : ℕ) (o : Option Question) → IsToFinish (S s) q (option_changed Q o) → IsToFinish s q o
    finish_before q None h = absurd h
    finish_before q (Some x) h = (h.0, over_before q x x.role h.1)

  closes_by : (s : State) (q : ℕ) (x : Question) (o : Option Returned)
      → S (record s { questions = closed_map s.questions q x o }) ≡ record (S s) { questions = closed_map (S s).questions q (Q x) (option_changed (returned_by f) o) }
  closes_by s q x None = put_question f s q (record x { finish = finishing.Sent })
  closes_by s q x (Some said) = cut_question f s q

  closes : (s : State) (q : ℕ) (x : Question) → S (closed s q x) ≡ closed (S s) q (Q x)
  closes s q x = closes_by s q x x.returned

  withers : (d : Progress) (over : Map Question) → Withers d over → Withers (P d) (map_values Q over)
  withers d _ (Over t none) =
      subst (Withers (P d)) (sym (map_values-empty Q))
      (Over (tight f d.state t) (λ q h. none q (finish_before d.state q (finite.get d.state.questions q) (subst (IsToFinish (S d.state) q) (get-map_values Q d.state.questions q) h))))
  withers d over (Thing {mid = mid} g rest) = Thing (goes f d mid g) (withers mid over rest)
  withers d _ (Asked {over = others} q x there due rest) =
      subst (Withers (P d)) (sym (map_values-insert Q others q x))
      (Asked q (Q x) (get-map_values Q d.state.questions q ∙ ap (option_changed Q) there) (finish_as d.state q (Some x) due)
      (subst (λ (s : State). Withers (with_state (P d) s) (map_values Q others)) (closes d.state q x) (withers (with_state d (closed d.state q x)) others rest)))

  said_same : (cs : List (Descriptor × Node)) → descriptors_said cs ≡ descriptors_said (map (beside_by f) cs)
  said_same [] = refl
  said_same (c ∷ cs) = ap (λ (ds : List Descriptor). c.0 ∷ ds) (said_same cs)

  got_same : (o : Option Returned) → got_of o ≡ got_of (option_changed (returned_by f) o)
  got_same None = refl
  got_same (Some (back.Results payload caps)) = ap given (said_same caps)
  got_same (Some (back.Exception e)) = refl

  finished_so : (d : Progress) (q : ℕ) (x : Question) (k : Finishing) → P (finished_by d q x k) ≡ finished_by (P d) q (Q x) k
  finished_so d q x finishing.Owed =
      let ids = got_of x.returned in
      let a = closes (give_back d.state ids) q x ∙ ap (λ (s : State). closed s q (Q x)) (gives f d.state ids) in
      let b = sym (same_flag f d.state ids) in
      (λ i. send (with_state (P d) (a i)) (plain.Finish (record { question = record { 0 = q }; release_result_caps = b i })))
      ∙ ap (λ (es : List ℕ). send (with_state (P d) (closed (give_back (S d.state) es) q (Q x))) (plain.Finish (record { question = record { 0 = q }; release_result_caps = flag_for (S d.state) es }))) (got_same x.returned)
  finished_so d q x finishing.Sent = refl
  finished_so d q x finishing.Waived = ap (with_state (P d)) (closes d.state q x)

  finishes_each : (d : Progress) (xs : List (ℕ × Question)) (new : Progress) → FinishesEach d xs new → FinishesEach (P d) (changed_each Q xs) (P new)
  finishes_each d [] new h = ap P h
  finishes_each d (x ∷ xs) new h = (
    P h.0,
    collects f h.0 d h.1,
    subst (λ (e : Progress). FinishesEach e (changed_each Q xs) (P new)) (finished_so h.0 x.0 x.1 x.1.finish) (finishes_each (finished_by h.0 x.0 x.1 x.1.finish) xs new h.2),
  )

  releases_each : (d : Progress) (xs : List (ℕ × ℕ)) → P (release_each d xs) ≡ release_each (P d) xs
  releases_each d [] = refl
  releases_each d (x ∷ xs) = releases_each (send d (plain.Release (record { export = export_id x.0; count = x.1 }))) xs

  releases_so : (d : Progress) → P (releases d) ≡ releases (P d)
  releases_so d = ap (λ (e : Progress). record e { released = finite.empty }) (releases_each d (finite.entries d.released))

  sweeps : (d new : Progress) → Sweeps d new → Sweeps (P d) (P new)
  sweeps d new h =
      let k = h.2 in
      let t = k.2 in (
        map_values Q h.0,
        withers d h.0 h.1,
        (
          P k.0,
          subst (λ (xs : List (ℕ × Question)). FinishesEach (P d) xs (P k.0)) (sym (entries-map_values Q h.0)) (finishes_each d (finite.entries h.0) k.0 k.1),
          (P t.0, collects f t.0 k.0 t.1, ap P t.2 ∙ releases_so t.0),
        ),
      )

  pub ends : KeepsApart f → (acted : Progress) (x : Effects) (new : State) → Ends acted x new → Ends (progress_by f acted) (effects_by f x) (state_by f new)
  ends one acted x new h = record {
    drained = P h.drained;
    swept = P h.swept;
    drains = drains f one h.drained acted h.drains;
    sweeps = sweeps h.drained h.swept h.sweeps;
    effects_are = ap (effects_by f) h.effects_are;
    new_is = ap S h.new_is;
  }
