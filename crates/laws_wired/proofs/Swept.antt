-- A step ends alike in both.
use Rattle.std.proofs.Common.{◌≡◌, ℕ, Bool, true, false, List, [], ◌∷◌, Option, None, Some, IsSome, refl, sym, ap, subst, ◌∙◌}
use Rattle.std.specs.FinMap as finite
use Rattle.finite_maps.specs.Tally.{Map, map_values, option_changed, changed_each}
use Rattle.finite_maps.proofs.Values.{entries-map_values, get-map_values, map_values-empty, map_values-insert}
use Rattle.rpc_msg.specs.declared.message.PlainMessage.TheVariants as plain
use Rattle.rpc_msg.specs.declared.message.Message.TheVariants as message
use Rattle.rpc_machine.specs.declared.command.Effects.{Effects}
use Rattle.rpc_machine.specs.declared.entries.Role.{Role}
use Rattle.rpc_machine.specs.declared.entries.Role.TheVariants as role
use Rattle.rpc_machine.specs.declared.entries.Finishing.{Finishing}
use Rattle.rpc_machine.specs.declared.entries.Finishing.TheVariants as finishing
use Rattle.rpc_machine.specs.declared.entries.Question.{Question}
use Rattle.rpc_machine.specs.State.{State}
use Rattle.rpc_machine.specs.Nodes.{is_pipe}
use Rattle.rpc_machine.specs.Progress.{Progress, with_state, send, export_id}
use Rattle.rpc_machine.specs.Collecting.{IsTight, Goes}
use Rattle.rpc_machine.specs.Flags.{flag_for, give_back}
use Rattle.rpc_machine.specs.Sweeping.{IsOver, IsToFinish, closed_map, closed, Withers, Over, Thing, Asked, got_of, finished_by, FinishesEach, release_each, releases, Sweeps}
use Rattle.rpc_machine.specs.Steps.{Ends, staying_up}
use Rattle.laws_wired.specs.Steps.{ComesAlike}
use Rattle.laws_wired.specs.Pairs.{TwoReturned, Gave, Failed, TwoQuestions, TwoStates, Same, returned_at, question_at, state_at}
use Rattle.laws_wired.proofs.Going.{TwoProgress, progress_at, Next2, in_state, send2, sends, put_question, cut_question}
use Rattle.laws_wired.proofs.Collected.{none_names, tight, goes, collects, same_flag, give2, gives}
use Rattle.laws_wired.proofs.Settled.{drains}

-- ---- which questions are over

some_as : (b c : Bool) (o : Option TwoReturned) → IsSome (option_changed (returned_at b) o) → IsSome (option_changed (returned_at c) o)
some_as b c None h = h
some_as b c (Some x) h = h

module _ (z : TwoStates) (b c : Bool) where
  over_as : (q : ℕ) (x : TwoQuestions) (r : Role) → IsOver (state_at b z) q (question_at b x) r → IsOver (state_at c z) q (question_at c x) r
  over_as q x (role.Relay o) h = some_as b c x.returned h
  over_as q x (role.Direct k) h = (h.0, none_names z b c (is_pipe q) (λ r. refl) h.1)

  finish_as : (q : ℕ) (o : Option TwoQuestions) → IsToFinish (state_at b z) q (option_changed (question_at b) o) → IsToFinish (state_at c z) q (option_changed (question_at c) o)
  finish_as q None h = absurd h
  finish_as q (Some x) h = (h.0, over_as q x x.role h.1)

  finish_there : (q : ℕ) → IsToFinish (state_at b z) q (finite.get (state_at b z).questions q) → IsToFinish (state_at c z) q (finite.get (state_at c z).questions q)
  finish_there q h =
      subst (IsToFinish (state_at c z) q) (sym (get-map_values (question_at c) z.questions q))
      (finish_as q (finite.get z.questions q) (subst (IsToFinish (state_at b z) q) (get-map_values (question_at b) z.questions q) h))

-- ---- they close

abbrev closed_map2 : Map TwoQuestions → ℕ → TwoQuestions → Option TwoReturned → Map TwoQuestions
closed_map2 m q x None = finite.insert m q (record x { finish = finishing.Sent })
closed_map2 m q x (Some said) = finite.remove m q

abbrev closed2 : TwoStates → ℕ → TwoQuestions → TwoStates
closed2 z q x = record z { questions = closed_map2 z.questions q x x.returned }

closes_by : (b : Bool) (z : TwoStates) (q : ℕ) (x : TwoQuestions) (o : Option TwoReturned)
    → state_at b (record z { questions = closed_map2 z.questions q x o }) ≡ record (state_at b z) { questions = closed_map (state_at b z).questions q (question_at b x) (option_changed (returned_at b) o) }
closes_by b z q x None = put_question b z q (record x { finish = finishing.Sent })
closes_by b z q x (Some said) = cut_question b z q

closes : (b : Bool) (z : TwoStates) (q : ℕ) (x : TwoQuestions) → state_at b (closed2 z q x) ≡ closed (state_at b z) q (question_at b x)
closes b z q x = closes_by b z q x x.returned

-- ---- in thought

record Found (o : Option TwoQuestions) (x : Question) : Type 0 where
  question : TwoQuestions
  there : o ≡ Some question
  is : x ≡ question_at false question

found : (o : Option TwoQuestions) (x : Question) → option_changed (question_at false) o ≡ Some x → Found o x
found None x e = cc
found (Some y) x e = let a : question_at false y ≡ x = cc in record { question = y; there = refl; is = sym a }

abbrev Withers2 : TwoProgress → Map Question → Type 0
Withers2 d over = (o : Map TwoQuestions) × (over ≡ map_values (question_at false) o) × Withers (progress_at true d) (map_values (question_at true) o)

withers : (at : Progress) (d : TwoProgress) (over : Map Question) → at ≡ progress_at false d → Withers at over → Withers2 d over
withers at d over e (Over t none) =
    let t2 : IsTight (state_at false d.state) = subst (λ (z : Progress). IsTight z.state) e t in
    let n2 : (q : ℕ) → ¬ (IsToFinish (state_at false d.state) q (finite.get (state_at false d.state).questions q)) =
    λ q h. none q (subst (λ (z : Progress). IsToFinish z.state q (finite.get z.state.questions q)) (sym e) h) in (
      finite.empty,
      sym (map_values-empty (question_at false)),
      subst (Withers (progress_at true d)) (sym (map_values-empty (question_at true)))
          (Over (tight d.state false true t2) (λ q h. n2 q (finish_there d.state true false q h))),
    )
withers at d over e (Thing {mid = mid} g rest) =
    let k = goes d mid (subst (λ (z : Progress). Goes z mid) e g) in
    let r = withers mid k.0 over k.1 rest in
    (r.0, r.1, Thing k.2 r.2)
withers at d over e (Asked {over = others} q x there due rest) =
    let f = found (finite.get d.state.questions q) x (sym (get-map_values (question_at false) d.state.questions q) ∙ sym (ap (λ (z : Progress). finite.get z.state.questions q) e) ∙ there) in
    let y = f.question in
    let after = in_state d (closed2 d.state q y) in
    let r = withers (with_state at (closed at.state q x)) after others
    ((λ i. with_state (e i) (closed (e i).state q (f.is i))) ∙ sym (ap (with_state (progress_at false d)) (closes false d.state q y))) rest in
    let due2 : IsToFinish (state_at false d.state) q (Some (question_at false y)) =
    subst (λ (w : Question). IsToFinish (state_at false d.state) q (Some w)) f.is (subst (λ (z : Progress). IsToFinish z.state q (Some x)) e due) in (
      finite.insert r.0 q y,
      (λ i. finite.insert (r.1 i) q (f.is i)) ∙ sym (map_values-insert (question_at false) r.0 q y),
      subst (Withers (progress_at true d)) (sym (map_values-insert (question_at true) r.0 q y))
          (Asked q (question_at true y) (get-map_values (question_at true) d.state.questions q ∙ ap (option_changed (question_at true)) f.there) (finish_as d.state false true q (Some y) due2)
          (subst (λ (s : State). Withers (with_state (progress_at true d) s) (map_values (question_at true) r.0)) (closes true d.state q y) r.2)),
    )

-- ---- they are finished

got_same : (b : Bool) (o : Option TwoReturned) → got_of (option_changed (returned_at b) o) ≡ got_of (option_changed (returned_at false) o)
got_same b None = refl
got_same b (Some (Gave x caps gone)) = refl
got_same b (Some (Failed e)) = refl

flag_same : (b : Bool) (z : TwoStates) (ids : List ℕ) → flag_for (state_at b z) ids ≡ flag_for (state_at false z) ids
flag_same true z ids = same_flag z ids
flag_same false z ids = refl

abbrev got2 : TwoQuestions → List ℕ
got2 x = got_of (option_changed (returned_at false) x.returned)

abbrev finished2 : TwoProgress → ℕ → TwoQuestions → Finishing → TwoProgress
finished2 d q x finishing.Owed =
    send2 (in_state d (closed2 (give2 d.state (got2 x)) q x))
    (Same (message.Plain (plain.Finish (record { question = record { 0 = q }; release_result_caps = flag_for (state_at false d.state) (got2 x) }))))
finished2 d q x finishing.Sent = d
finished2 d q x finishing.Waived = in_state d (closed2 d.state q x)

finished_so : (b : Bool) (d : TwoProgress) (q : ℕ) (x : TwoQuestions) (f : Finishing) → progress_at b (finished2 d q x f) ≡ finished_by (progress_at b d) q (question_at b x) f
finished_so b d q x finishing.Owed =
    let ids = got2 x in
    let m = Same (message.Plain (plain.Finish (record { question = record { 0 = q }; release_result_caps = flag_for (state_at false d.state) ids }))) in
    let a : state_at b (closed2 (give2 d.state ids) q x) ≡ closed (give_back (state_at b d.state) ids) q (question_at b x) =
    closes b (give2 d.state ids) q x ∙ ap (λ (s : State). closed s q (question_at b x)) (gives d.state b ids) in
    sends b (in_state d (closed2 (give2 d.state ids) q x)) m
    ∙ (λ i. send (with_state (progress_at b d) (a i)) (plain.Finish (record { question = record { 0 = q }; release_result_caps = sym (flag_same b d.state ids) i })))
    ∙ ap (λ (es : List ℕ). send (with_state (progress_at b d) (closed (give_back (state_at b d.state) es) q (question_at b x))) (plain.Finish (record { question = record { 0 = q }; release_result_caps = flag_for (state_at b d.state) es })))
    (sym (got_same b x.returned))
finished_so b d q x finishing.Sent = refl
finished_so b d q x finishing.Waived = ap (with_state (progress_at b d)) (closes b d.state q x)

finishes_each : (d : TwoProgress) (xs : List (ℕ × TwoQuestions)) (new : Progress)
    → FinishesEach (progress_at false d) (changed_each (question_at false) xs) new → Next2 new (FinishesEach (progress_at true d) (changed_each (question_at true) xs))
finishes_each d [] new h = (d, h, refl)
finishes_each d (x ∷ xs) new h =
    let k = collects h.0 (progress_at false d) d refl h.1 in
    let r = finishes_each (finished2 k.0 x.0 x.1 x.1.finish) xs new
    (subst (λ (z : Progress). FinishesEach z (changed_each (question_at false) xs) new)
    (ap (λ (z : Progress). finished_by z x.0 (question_at false x.1) x.1.finish) k.1 ∙ sym (finished_so false k.0 x.0 x.1 x.1.finish)) h.2) in
    (r.0, r.1, (progress_at true k.0, k.2, subst (λ (z : Progress). FinishesEach z (changed_each (question_at true) xs) (progress_at true r.0)) (finished_so true k.0 x.0 x.1 x.1.finish) r.2))

-- ---- Releases

abbrev release_each2 : TwoProgress → List (ℕ × ℕ) → TwoProgress
release_each2 d [] = d
release_each2 d (x ∷ xs) = release_each2 (send2 d (Same (message.Plain (plain.Release (record { export = export_id x.0; count = x.1 }))))) xs

releases_each : (b : Bool) (d : TwoProgress) (xs : List (ℕ × ℕ)) → progress_at b (release_each2 d xs) ≡ release_each (progress_at b d) xs
releases_each b d [] = refl
releases_each b d (x ∷ xs) =
    let m = Same (message.Plain (plain.Release (record { export = export_id x.0; count = x.1 }))) in
    releases_each b (send2 d m) xs ∙ ap (λ (z : Progress). release_each z xs) (sends b d m)

abbrev releases2 : TwoProgress → TwoProgress
releases2 d = record (release_each2 d (finite.entries d.released)) { released = finite.empty }

releases_so : (b : Bool) (d : TwoProgress) → progress_at b (releases2 d) ≡ releases (progress_at b d)
releases_so b d = ap (λ (z : Progress). record z { released = finite.empty }) (releases_each b d (finite.entries d.released))

-- ---- the whole

sweeps : (d : TwoProgress) (new : Progress) → Sweeps (progress_at false d) new → Next2 new (Sweeps (progress_at true d))
sweeps d new h =
    let f = h.2 in
    let t = f.2 in
    let w = withers (progress_at false d) d h.0 refl h.1 in
    let k = finishes_each d (finite.entries w.0) f.0
    (subst (λ (xs : List (ℕ × Question)). FinishesEach (progress_at false d) xs f.0) (ap finite.entries w.1 ∙ entries-map_values (question_at false) w.0) f.1) in
    let c = collects t.0 f.0 k.0 k.1 t.1 in (
      releases2 c.0,
      t.2 ∙ ap releases c.1 ∙ sym (releases_so false c.0),
      (
        map_values (question_at true) w.0,
        w.2,
        (
          progress_at true k.0,
          subst (λ (xs : List (ℕ × Question)). FinishesEach (progress_at true d) xs (progress_at true k.0)) (sym (entries-map_values (question_at true) w.0)) k.2,
          (progress_at true c.0, c.2, releases_so true c.0),
        ),
      ),
    )

pub ends : (d : TwoProgress) (acted : Progress) (said : Effects) (new : State) → acted ≡ progress_at false d → Ends acted said new → ComesAlike said new (Ends (progress_at true d))
ends d acted said new e h =
    let k = drains h.drained acted d e h.drains in
    let r = sweeps k.0 h.swept (subst (λ (z : Progress). Sweeps z h.swept) k.1 h.sweeps) in (
      record (r.0.effects) { down = None },
      r.0.state,
      h.effects_are ∙ ap (λ (z : Progress). staying_up z.effects) r.1,
      h.new_is ∙ ap (λ (z : Progress). z.state) r.1,
      record { drained = progress_at true k.0; swept = progress_at true r.0; drains = k.2; sweeps = r.2; effects_are = refl; new_is = refl },
    )
