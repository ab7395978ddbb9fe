-- The end of a step: the questions that are over are closed, and what no place names goes. Then no place names a Pipe of
-- a question that was closed.
use Rattle.std.proofs.Common.{◌≡◌, ◌⊎◌, inl, inr, ℕ, ◌+◌, ◌≤◌, Bool, true, false, cond, nat_eq, List, [], ◌∷◌, Option, None, Some, refl, sym, ap, subst, ◌∙◌, arith, T}
use Rattle.std.specs.Ordering.{nat_cmp, eq_by_cmp}
use Rattle.std.specs.FinMap as map
use Rattle.std.specs.FinMap.Entries as entries
use Rattle.finite_maps.specs.Tally.{Map}
use Rattle.laws_acts.specs.rpc_machine.specs.declared.node.Node.{Node}
use Rattle.laws_acts.specs.rpc_machine.specs.declared.node.Node.TheVariants as node
use Rattle.laws_acts.specs.rpc_machine.specs.declared.calls.OwnCall.{OwnCall}
use Rattle.laws_acts.specs.rpc_machine.specs.declared.calls.OwnCall.TheVariants as own
use Rattle.laws_acts.specs.rpc_machine.specs.declared.command.Level.{Level}
use Rattle.laws_acts.specs.rpc_machine.specs.declared.command.Level.TheVariants.{One}
use Rattle.laws_acts.specs.rpc_machine.specs.declared.entries.Role.{Role}
use Rattle.laws_acts.specs.rpc_machine.specs.declared.entries.Role.TheVariants as role
use Rattle.laws_acts.specs.rpc_machine.specs.declared.entries.Finishing.{Finishing}
use Rattle.laws_acts.specs.rpc_machine.specs.declared.entries.Finishing.TheVariants as finishing
use Rattle.laws_acts.specs.rpc_machine.specs.declared.entries.Returned.{Returned}
use Rattle.laws_acts.specs.rpc_machine.specs.declared.entries.Question.{Question}
use Rattle.laws_acts.specs.rpc_machine.specs.State.{State}
use Rattle.laws_acts.specs.rpc_machine.specs.Lists.{how_many}
use Rattle.laws_acts.specs.rpc_machine.specs.Nodes.{is_import, is_pipe}
use Rattle.laws_acts.specs.rpc_machine.specs.Places.{named_by_question, named_by_returned, places, names}
use Rattle.laws_acts.specs.rpc_machine.specs.Progress.{Progress, with_state}
use Rattle.laws_acts.specs.rpc_machine.specs.Collecting.{IsTight, Collects}
use Rattle.laws_acts.specs.rpc_machine.specs.Flags.{give_if, give_back, flag_for}
use Rattle.laws_acts.specs.rpc_machine.specs.Sweeping.{IsOver, IsNotSent, closed_map, closed, Withers, Over, Thing, Asked, got_of, finished_by, FinishesEach, release_each, Sweeps}
use Rattle.laws_steps.specs.Settled.{IsAmong}
use Rattle.finite_maps.proofs.Gets.{get-insert_same, get-remove_same}
use Rattle.finite_maps.proofs.Tested.{ties, equal, itself, untied, get_other, get_left}
use Rattle.finite_maps.proofs.Sorted.{behind, first_entry, sorted_tail}
use Rattle.laws_steps.proofs.Among.{none_among}
use Rattle.laws_steps.proofs.NamedNodes as nodes
use Rattle.laws_steps.proofs.NamedNodes.{Present, asker, askers, Tied, AllIn, EachIn, all_none, at_put, at_cut, each_put, each_cut, Brought, HasKept, HereIn, Sound, Fine, set_questions, more_asked, present_put, renamed_places}
use Rattle.laws_steps.proofs.GivenBack.{of_closed, still_here, gives}
use Rattle.laws_steps.proofs.HeldQuestions.{brings_none, brought_put, brought_cut}
use Rattle.laws_steps.proofs.NamedPieces.{collects}
use Rattle.laws_steps.proofs.Below.{IsClosed, Below, none_below, below_same, below_then, collects_below, collects_questions, goes_questions, gives_below, closes_below, still_below}
use Rattle.laws_acts.proofs.Ends.{closed_other}
use Rattle.laws_acts.proofs.Pieces.{tight_then}

-- Of the questions nothing is known.
abbrev Anything : Map Question → Type 0
Anything m = Unit {0}

-- ---- One question is finished

module _ {w : nodes.Asked} {T U : Map Question → Type 0} (s : State) (q : ℕ) where
  pub without_question : Sound w T s → U (map.remove s.questions q) → Sound w U (record s { questions = map.remove s.questions q })
  without_question h u = let n = h.names in set_questions s (map.remove s.questions q) h (each_cut (HereIn w s) named_by_question s.questions q n.4) (brought_cut s.level s.questions q h.brought) u

module _ {w : nodes.Asked} {T U : Map Question → Type 0} (s : State) (q : ℕ) (x : Question) where
  closes : Sound w T s → U (closed s q x).questions → Sound w U (closed s q x)
  closes h u = by x.returned refl u
    where
      by : (o : Option Returned) → x.returned ≡ o → U (closed_map s.questions q x o) → Sound w U (record s { questions = closed_map s.questions q x o })
      by None e u =
          let n = h.names in
          let y : Question = record x { finish = finishing.Sent } in
          let none : AllIn (HereIn w s) (named_by_question q y) = subst (λ (o : Option Returned). AllIn (HereIn w s) (named_by_returned o)) (sym e) (all_none (HereIn w s)) in
          set_questions s (map.insert s.questions q y) h (each_put (HereIn w s) named_by_question s.questions q y none n.4) (brought_put s.level s.questions q y (brings_none s.level y e) h.brought) u
      by (Some said) e u = without_question s q h u

module _ (s : State) (q : ℕ) (x : Question) (there : map.get s.questions q ≡ Some x) where
  -- What its Return brought is named no more.
  fewer : Brought s.level (map.get s.questions q) → s.level ≡ One → (e : ℕ) → how_many (nat_eq e) (got_of x.returned) + names (closed s q x) (is_import e) ≤ names s (is_import e)
  fewer b l e =
      let one = of_closed (is_import e) s q x there in
      let two : Brought One (Some x) = subst (λ (k : Level). Brought k (Some x)) l (subst (Brought s.level) there b) in
      let three = two e in
      omega (arith, one, three)

  closed_then : {w : nodes.Asked} (b : Bool) (ids : List ℕ) → Sound w Anything (give_if (closed s q x) b ids) → Sound w Anything (closed (give_if s b ids) q x)
  closed_then true ids h = h
  closed_then false ids h = h

  owed : {w : nodes.Asked} → Sound w Anything s → Sound w Anything (closed (give_back s (got_of x.returned)) q x)
  owed {w} h =
      let ids = got_of x.returned in
      let b = flag_for s ids in
      let t : State = closed s q x in
      closed_then b ids (gives t b ids (closes s q x h tt) (still_here w s t ids h.level (fewer (h.brought q)) b refl))

finished : {w : nodes.Asked} (d : Progress) (q : ℕ) (x : Question) (f : Finishing) → map.get d.state.questions q ≡ Some x → Sound w Anything d.state → Sound w Anything (finished_by d q x f).state
finished d q x finishing.Owed e h = owed d.state q x e h
finished d q x finishing.Sent e h = h
finished d q x finishing.Waived e h = closes d.state q x h tt

closed_below : (s : State) (b : Bool) (ids : List ℕ) (q : ℕ) (x : Question) → Below s (closed (give_if s b ids) q x)
closed_below s b ids q x = let t = give_if s b ids in below_then s t (closed t q x) (gives_below s b ids) (closes_below t q x)

pub finished_below : (d : Progress) (q : ℕ) (x : Question) (f : Finishing) → Below d.state (finished_by d q x f).state
finished_below d q x finishing.Owed = closed_below d.state (flag_for d.state (got_of x.returned)) (got_of x.returned) q x
finished_below d q x finishing.Sent = below_same d.state
finished_below d q x finishing.Waived = closes_below d.state q x

pub given_questions : (s : State) (b : Bool) (ids : List ℕ) → (give_if s b ids).questions ≡ s.questions
given_questions s false ids = refl
given_questions s true ids = refl

finished_questions : (d : Progress) (q : ℕ) (x : Question) (f : Finishing) → IsNotSent f → (finished_by d q x f).state.questions ≡ closed_map d.state.questions q x x.returned
finished_questions d q x finishing.Owed h = ap (λ (m : Map Question). closed_map m q x x.returned) (given_questions d.state (flag_for d.state (got_of x.returned)) (got_of x.returned))
finished_questions d q x finishing.Sent h = absurd h
finished_questions d q x finishing.Waived h = refl

closed_here : (m : Map Question) (q : ℕ) (x : Question) (o : Option Returned) → x.returned ≡ o → IsClosed (map.get (closed_map m q x o) q)
closed_here m q x None e = subst IsClosed (sym (get-insert_same m q (record x { finish = finishing.Sent }))) (e, refl)
closed_here m q x (Some said) e = subst IsClosed (sym (get-remove_same m q)) tt

closed_stays : (m : Map Question) (q : ℕ) (x : Question) (k : ℕ) → IsClosed (map.get m k) → IsClosed (map.get (closed_map m q x x.returned) k)
closed_stays m q x k h = by (nat_eq k q) refl
  where
    by : (b : Bool) → nat_eq k q ≡ b → IsClosed (map.get (closed_map m q x x.returned) k)
    by false e = subst IsClosed (sym (closed_other m q x x.returned k e)) h
    by true e = subst (λ (j : ℕ). IsClosed (map.get (closed_map m q x x.returned) j)) (sym (equal k q e)) (closed_here m q x x.returned refl)

-- ---- All of them are

-- Each of these is still to be finished.
abbrev Rest : State → List (ℕ × Question) → Type 0
Rest s xs = (q : ℕ) (x : Question) → entries.find nat_cmp q xs ≡ Some x → (map.get s.questions q ≡ Some x) × IsNotSent x.finish

-- What one of them leaves to the others.
module _ (d mid : Progress) (e : ℕ × Question) (es : List (ℕ × Question)) (rest : Rest d.state (e ∷ es)) (collected : Collects mid d) where
  abbrev after : Progress
  after = finished_by mid e.0 e.1 e.1.finish

  head : (map.get d.state.questions e.0 ≡ Some e.1) × IsNotSent e.1.finish
  head = rest e.0 e.1 (first_entry e es)

  after_questions : after.state.questions ≡ closed_map d.state.questions e.0 e.1 e.1.returned
  after_questions = finished_questions mid e.0 e.1 e.1.finish head.1 ∙ ap (λ (m : Map Question). closed_map m e.0 e.1 e.1.returned) (collects_questions mid d collected)

  after_other : (k : ℕ) → nat_eq k e.0 ≡ false → map.get after.state.questions k ≡ map.get d.state.questions k
  after_other k g = ap (λ (m : Map Question). map.get m k) after_questions ∙ closed_other d.state.questions e.0 e.1 e.1.returned k g

  after_closed : (k : ℕ) → IsClosed (map.get d.state.questions k) → IsClosed (map.get after.state.questions k)
  after_closed k h = subst (λ (m : Map Question). IsClosed (map.get m k)) (sym after_questions) (closed_stays d.state.questions e.0 e.1 k h)

  after_here : IsClosed (map.get after.state.questions e.0)
  after_here = subst (λ (m : Map Question). IsClosed (map.get m e.0)) (sym after_questions) (closed_here d.state.questions e.0 e.1 e.1.returned refl)

  after_rest : T (entries.below_all nat_cmp e.0 es) → Rest after.state es
  after_rest b q x f =
      let g : eq_by_cmp nat_cmp q e.0 ≡ false = behind e.0 es q x b f in
      let h = rest q x (ap (λ c. cond c (Some e.1) (entries.find nat_cmp q es)) g ∙ f) in
      (after_other q (untied q e.0 g) ∙ h.0, h.1)

  after_sound : {w : nodes.Asked} → Sound w Anything d.state → Sound w Anything after.state
  after_sound i = finished mid e.0 e.1 e.1.finish (ap (λ (m : Map Question). map.get m e.0) (collects_questions mid d collected) ∙ head.0) (collects mid d i collected)

  after_below : Below d.state after.state
  after_below = below_then d.state mid.state after.state (collects_below mid d collected) (finished_below mid e.0 e.1 e.1.finish)

-- What is left after all: it is sound, and below; the questions are closed, and others as before.
pub record Finished (w : nodes.Asked) (s : State) (xs : List (ℕ × Question)) (t : State) : Type 0 where
  pub sound : Sound w Anything t
  pub below : Below s t
  pub closed : (k : ℕ) → IsClosed (map.get s.questions k) → IsClosed (map.get t.questions k)
  pub done : (k : ℕ) → Present (entries.find nat_cmp k xs) → IsClosed (map.get t.questions k)
  pub others : (k : ℕ) → entries.find nat_cmp k xs ≡ None → map.get t.questions k ≡ map.get s.questions k

finishes_each : {w : nodes.Asked} (d : Progress) (xs : List (ℕ × Question)) (new : Progress) → T (entries.is_sorted nat_cmp xs) → Rest d.state xs → Sound w Anything d.state → FinishesEach d xs new → Finished w d.state xs new.state
finishes_each {w} d [] new o r i h = rw h (record { sound = i; below = below_same d.state; closed = λ k c. c; done = λ k c. absurd c; others = λ k f. refl })
finishes_each {w} d (e ∷ es) new o r i h =
    let mid = h.0 in
    let s = sorted_tail e.0 es o in
    let next = finished_by mid e.0 e.1 e.1.finish in
    let k = finishes_each next es new s.1 (after_rest d mid e es r h.1 s.0) (after_sound d mid e es r h.1 i) h.2 in
    record {
      sound = k.sound;
      below = below_then d.state next.state new.state (after_below d mid e es r h.1) k.below;
      closed = λ j c. k.closed j (after_closed d mid e es r h.1 j c);
      done = λ j c. all_done k j (eq_by_cmp nat_cmp j e.0) refl c;
      others = λ j f. all_others k j (eq_by_cmp nat_cmp j e.0) refl f;
    }
  where
    all_done : Finished w (finished_by h.0 e.0 e.1 e.1.finish).state es new.state → (j : ℕ) (b : Bool) → eq_by_cmp nat_cmp j e.0 ≡ b → Present (cond b (Some e.1) (entries.find nat_cmp j es)) → IsClosed (map.get new.state.questions j)
    all_done k j false g c = k.done j c
    all_done k j true g c = k.closed j (subst (λ (n : ℕ). IsClosed (map.get (finished_by h.0 e.0 e.1 e.1.finish).state.questions n)) (sym (equal j e.0 (sym (ties j e.0) ∙ g))) (after_here d h.0 e es r h.1))

    all_others : Finished w (finished_by h.0 e.0 e.1 e.1.finish).state es new.state → (j : ℕ) (b : Bool) → eq_by_cmp nat_cmp j e.0 ≡ b → cond b (Some e.1) (entries.find nat_cmp j es) ≡ None → map.get new.state.questions j ≡ map.get d.state.questions j
    all_others k j false g f = k.others j f ∙ after_other d h.0 e es r h.1 j (untied j e.0 g)
    all_others k j true g f = absurd (let bad : Some e.1 ≡ None = f in cc)

-- ---- The questions that are over

-- Each was there, and its Finish was not sent.
withers_from : (d : Progress) (over : Map Question) → Withers d over → (q : ℕ) (x : Question) → map.get over q ≡ Some x → (map.get d.state.questions q ≡ Some x) × IsNotSent x.finish
withers_from d over (Over tight none) q x e = absurd (let bad : None ≡ Some x = sym (map.get-empty nat_cmp q) ∙ e in cc)
withers_from d over (Thing {mid = mid} g rest) q x e = let h = withers_from mid over rest q x e in (ap (λ (m : Map Question). map.get m q) (sym (goes_questions d mid g)) ∙ h.0, h.1)
withers_from d over (Asked {over = others} k y there due rest) q x e = by (withers_from (with_state d (closed d.state k y)) others rest q x) (nat_eq q k) refl
  where
    by : (map.get others q ≡ Some x → (map.get (closed d.state k y).questions q ≡ Some x) × IsNotSent x.finish) → (b : Bool) → nat_eq q k ≡ b → (map.get d.state.questions q ≡ Some x) × IsNotSent x.finish
    by before false f = let h = before (sym (get_other others k y q f) ∙ e) in (sym (closed_other d.state.questions k y y.returned q f) ∙ h.0, h.1)
    by before true f =
        let j : q ≡ k = equal q k f in
        let same : Some y ≡ Some x = sym (get-insert_same others k y) ∙ ap (map.get (map.insert others k y)) (sym j) ∙ e in
        let z : y ≡ x = cc in
        (ap (map.get d.state.questions) j ∙ there ∙ same, subst (λ (u : Question). IsNotSent u.finish) z due.0)

-- In what is left of it the call of such a question is gone, and no place names a Pipe of it.
abbrev pub Done : State → ℕ → Role → Type 0
Done t q (role.Relay o) = Unit {0}
Done t q (role.Direct c) = (map.get t.calls c.0 ≡ None) × (names t (is_pipe q) ≡ 0)

done_below : (s t : State) → Below s t → (q : ℕ) (x : Question) (r : Role) → IsOver s q x r → Done t q r
done_below s t b q x (role.Relay o) h = tt
done_below s t b q x (role.Direct c) h = (ap (λ (m : Map OwnCall). map.get m c.0) b.calls ∙ h.0, none_below s t b (is_pipe q) h.1)

below_closed : (s t : State) → Below s t → (q : ℕ) (x : Question) → IsClosed (map.get t.questions q) → Below (closed s q x) t
below_closed s t b q x c = record { refs = b.refs; embargoes = b.embargoes; exports = b.exports; answers = b.answers; calls = b.calls; promises = b.promises; outcomes = b.outcomes; imports = b.imports; questions = λ k. by k (nat_eq k q) refl }
  where
    by : (k : ℕ) (d : Bool) → nat_eq k q ≡ d → (map.get t.questions k ≡ map.get (closed s q x).questions k) ⊎ IsClosed (map.get t.questions k)
    by k false e = subst (λ (o : Option Question). (map.get t.questions k ≡ o) ⊎ IsClosed (map.get t.questions k)) (sym (closed_other s.questions q x x.returned k e)) (b.questions k)
    by k true e = inr (subst (λ (j : ℕ). IsClosed (map.get t.questions j)) (sym (equal k q e)) c)

withers_done : (d : Progress) (over : Map Question) (t : State) → Withers d over → Below d.state t → IsTight t → ((q : ℕ) → Present (map.get over q) → IsClosed (map.get t.questions q)) → (q : ℕ) (x : Question) → map.get over q ≡ Some x → Done t q x.role
withers_done d over t (Over tight none) b i c q x e = absurd (let bad : None ≡ Some x = sym (map.get-empty nat_cmp q) ∙ e in cc)
withers_done d over t (Thing {mid = mid} g rest) b i c q x e = withers_done mid over t rest (still_below d mid t b i g) i c q x e
withers_done d over t (Asked {over = others} k y there due rest) b i c q x e = by (withers_done (with_state d (closed d.state k y)) others t rest (below_closed d.state t b k y (c k (subst (λ (o : Option Question). Present o) (sym (get-insert_same others k y)) tt))) i (λ j p. c j (present_put others k y j p)) q x) (nat_eq q k) refl
  where
    by : (map.get others q ≡ Some x → Done t q x.role) → (f : Bool) → nat_eq q k ≡ f → Done t q x.role
    by before false f = before (sym (get_other others k y q f) ∙ e)
    by before true f =
        let j : q ≡ k = equal q k f in
        let same : Some y ≡ Some x = sym (get-insert_same others k y) ∙ ap (map.get (map.insert others k y)) (sym j) ∙ e in
        let z : y ≡ x = cc in
        subst (λ (u : Question). Done t q u.role) z (subst (λ (n : ℕ). Done t n y.role) (sym j) (done_below d.state t b k y y.role due.1))

-- ---- The whole

-- What places name is there, and nothing is left that would go.
pub record Whole (s : State) : Type 0 where
  pub fine : Fine (askers s.questions) s
  pub tight : IsTight s

pub released : (d : Progress) (xs : List (ℕ × ℕ)) → (release_each d xs).state ≡ d.state
released d [] = refl
released d (x ∷ xs) = released _ xs

-- What a Finish leaves of the questions that are held.
module _ (s t : State) (over : Map Question) (from : (q : ℕ) (x : Question) → map.get over q ≡ Some x → (map.get s.questions q ≡ Some x) × IsNotSent x.finish) (others : (q : ℕ) → map.get over q ≡ None → map.get t.questions q ≡ map.get s.questions q) (done : (q : ℕ) (x : Question) → map.get over q ≡ Some x → Done t q x.role) where
  -- A question that was held is as it was, or it was of a call that is gone, and no place names a Pipe of it.
  held_or_done : (q c : ℕ) → askers s.questions q ≡ Some c → (askers t.questions q ≡ Some c) ⊎ ((map.get t.calls c ≡ None) × (names t (is_pipe q) ≡ 0))
  held_or_done q c h = by (map.get over q) refl
    where
      role_of : (f : Finishing) (r : Role) → nodes.asker_by f r ≡ Some c → Done t q r → (map.get t.calls c ≡ None) × (names t (is_pipe q) ≡ 0)
      role_of finishing.Owed (role.Direct k) e d = let j : k.0 ≡ c = cc in subst (λ (n : ℕ). (map.get t.calls n ≡ None) × (names t (is_pipe q) ≡ 0)) j d
      role_of finishing.Owed (role.Relay o) e d = absurd (let bad : None ≡ Some c = e in cc)
      role_of finishing.Sent (role.Direct k) e d = absurd (let bad : None ≡ Some c = e in cc)
      role_of finishing.Sent (role.Relay o) e d = absurd (let bad : None ≡ Some c = e in cc)
      role_of finishing.Waived (role.Direct k) e d = let j : k.0 ≡ c = cc in subst (λ (n : ℕ). (map.get t.calls n ≡ None) × (names t (is_pipe q) ≡ 0)) j d
      role_of finishing.Waived (role.Relay o) e d = absurd (let bad : None ≡ Some c = e in cc)

      by : (o : Option Question) → map.get over q ≡ o → (askers t.questions q ≡ Some c) ⊎ ((map.get t.calls c ≡ None) × (names t (is_pipe q) ≡ 0))
      by None e = inl (ap asker (others q e) ∙ h)
      by (Some x) e =
          let f = from q x e in
          inr (role_of x.finish x.role (ap asker (sym f.0) ∙ h) (done q x e))

  pipe_here : (q : ℕ) (path : _) → IsAmong (node.Pipe (record { 0 = q }) path) (places t) → Present (askers s.questions q) → Present (askers t.questions q)
  pipe_here q path i h = by (askers s.questions q) refl h
    where
      one : (c : ℕ) → (askers t.questions q ≡ Some c) ⊎ ((map.get t.calls c ≡ None) × (names t (is_pipe q) ≡ 0)) → Present (askers t.questions q)
      one c (inl e) = subst (λ (o : Option ℕ). Present o) (sym e) tt
      one c (inr z) =
          let never : nat_eq q q ≡ false = none_among (is_pipe q) (places t) z.1 (node.Pipe (record { 0 = q }) path) i in
          absurd (let bad : true ≡ false = sym (itself q) ∙ never in cc)

      by : (o : Option ℕ) → askers s.questions q ≡ o → Present o → Present (askers t.questions q)
      by None e k = absurd k
      by (Some c) e k = one c (held_or_done q c e)

  all_here : (n : Node) → IsAmong n (places t) → HereIn (askers s.questions) t n → HereIn (askers t.questions) t n
  all_here (node.Object o) i h = tt
  all_here (node.Promise p) i h = h
  all_here (node.Field o path) i h = h
  all_here (node.Import e) i h = h
  all_here (node.Pipe q path) i h = pipe_here q.0 path i h
  all_here (node.Broken reason) i h = tt

  call_has : (c : ℕ) (o : Option OwnCall) → map.get t.calls c ≡ o → HasKept (askers s.questions) t.outcomes c o → HasKept (askers t.questions) t.outcomes c o
  call_has c None e h = tt
  call_has c (Some (own.Kept o)) e h = h
  call_has c (Some (own.Direct q)) e h = by (held_or_done q.0 c h)
    where
      by : (askers t.questions q.0 ≡ Some c) ⊎ ((map.get t.calls c ≡ None) × (names t (is_pipe q.0) ≡ 0)) → askers t.questions q.0 ≡ Some c
      by (inl f) = f
      by (inr z) = absurd (let bad : Some (own.Direct q) ≡ None = sym e ∙ z.0 in cc)

  still_fine : Sound (askers s.questions) Anything t → Fine (askers t.questions) t
  still_fine h = record {
    names = renamed_places (HereIn (askers s.questions) t) (HereIn (askers t.questions) t) t all_here h.names;
    pending = h.pending;
    answers = h.answers;
    calls = λ c. call_has c (map.get t.calls c) refl (h.calls c);
    level = h.level;
    brought = h.brought;
    counted = h.counted;
    asked = λ q c e. e;
  }

present_of : {X : Type 0} (o p : Option X) → o ≡ p → Present o → Present p
present_of {X} o p e h = subst (λ (x : Option X). Present x) e h

pub swept : {w : nodes.Asked} (d new : Progress) → Fine w d.state → Sweeps d new → Whole new.state
swept {w} d new i h =
    let over = h.0 in
    let wither = h.1 in
    let g = h.2 in
    let mid = g.0 in
    let k = g.2 in
    let tight = k.0 in
    let s = d.state in
    let t = tight.state in
    let start : Sound (askers s.questions) Anything s = more_asked w (askers s.questions) Anything s i i.asked tt in
    let from = withers_from d over wither in
    let rest : Rest s (map.entries over) = λ q x e. from q x (map.get-entries over q ∙ e) in
    let all : Finished (askers s.questions) s (map.entries over) mid.state = finishes_each d (map.entries over) mid (map.entries_sorted over) rest start g.1 in
    let same : t.questions ≡ mid.state.questions = collects_questions tight mid k.1 in
    let below : Below s t = below_then s mid.state t all.below (collects_below tight mid k.1) in
    let ends : IsTight t = tight_then tight mid k.1 in
    let shut : (q : ℕ) → Present (map.get over q) → IsClosed (map.get t.questions q) = λ q p. subst (λ (m : Map Question). IsClosed (map.get m q)) (sym same) (all.done q (present_of _ _ (map.get-entries over q) p)) in
    let others : (q : ℕ) → map.get over q ≡ None → map.get t.questions q ≡ map.get s.questions q = λ q e. ap (λ (m : Map Question). map.get m q) same ∙ all.others q (sym (map.get-entries over q) ∙ e) in
    let fine : Fine (askers t.questions) t = still_fine s t over from others (withers_done d over t wither below ends shut) (collects tight mid all.sound k.1) in
    let whole : Whole t = record { fine = fine; tight = ends } in
    rw k.2 (subst Whole (sym (released tight (map.entries tight.released))) whole)
