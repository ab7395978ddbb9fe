-- The outcome of a task that is answered or failed is known by the end of the step, or it is gone.
use Rattle.std.proofs.Common.{◌≡◌, ◌⊎◌, inl, inr, ℕ, cond, List, [], ◌∷◌, ◌++◌, Option, None, Some, Result, Ok, Err, refl, sym, ap, subst, ◌∙◌}
use Rattle.std.specs.Ordering.{nat_cmp}
use Rattle.std.specs.FinMap as map
use Rattle.finite_maps.specs.Tally.{Map}
use Rattle.finite_maps.proofs.Tested.{itself, at_put, at_cut, get_put}
use Rattle.rpc_msg.specs.declared.ids.ExportId.{ExportId}
use Rattle.rpc_msg.specs.declared.ids.TaskId.{TaskId}
use Rattle.rpc_machine.specs.declared.command.Command.{Command}
use Rattle.rpc_machine.specs.declared.command.Granted.{Granted}
use Rattle.rpc_machine.specs.declared.command.Refusal.{Refusal}
use Rattle.rpc_machine.specs.declared.command.Effects.{Effects}
use Rattle.rpc_machine.specs.declared.calls.Caller.{Caller}
use Rattle.rpc_machine.specs.declared.calls.HeldCall.{HeldCall}
use Rattle.rpc_machine.specs.declared.calls.KeptOutcome.{KeptOutcome}
use Rattle.rpc_machine.specs.declared.calls.Value.{Value}
use Rattle.rpc_machine.specs.declared.entries.AnswerEntry.{AnswerEntry}
use Rattle.rpc_machine.specs.State.{State}
use Rattle.rpc_machine.specs.Numbers.{want_of_room}
use Rattle.rpc_machine.specs.Down.{fallen}
use Rattle.rpc_machine.specs.Steps.{Does, Refuses, LacksMemory, GoesDown, Shuts, IsDone}
use Rattle.laws_acts.specs.Moments.{Moment, beginning}
use Rattle.laws_acts.specs.FirstActs.{Starts}
use Rattle.laws_acts.specs.FirstActs as first
use Rattle.laws_acts.specs.SmallActs.{Act, kept_known}
use Rattle.laws_acts.specs.SmallActs as act
use Rattle.laws_acts.proofs.EachStep.{done}
use Rattle.laws_steps.specs.NodesThere.{Commanded, Stays}
use Rattle.laws_steps.proofs.Reached.{go_on}
use Rattle.laws_messages.specs.Returned.{AnswersReturnOnceKnown, IsInStep, IsToldOnceKnown}
use Rattle.laws_returns.specs.Steps.{EndsTask, IsReturnedBy, TaskEndsReturn, unreturned}

-- ---- One outcome

-- It is known, or it is not there.
abbrev Settled : Option KeptOutcome → Type 0
Settled None = Unit {0}
Settled (Some x) = x.value ≡ None → ⊥

known : (c : Caller) (v : Value) (w : List HeldCall) → Settled (Some (kept_known c v w))
known c v w e = let bad : Some v ≡ None = e in cc

module _ (o : ℕ) where
  abbrev IsComing : List (ℕ × Value) → Type 0
  IsComing coming = (v : Value) × (coming ≡ (o, v) ∷ [])

  -- It becomes known next, or it is.
  abbrev Over : Moment → Type 0
  Over d = IsComing d.coming ⊎ Settled (map.get d.state.outcomes o)

  none_comes : IsComing [] → ⊥
  none_comes k = let bad : ◌≡◌ {A = List (ℕ × Value)} [] ((o, k.0) ∷ []) = k.1 in cc

  settled_put : (os : Map KeptOutcome) (u : ℕ) (y : KeptOutcome) → (Settled (map.get os u) → Settled (Some y)) → Settled (map.get os o) → Settled (map.get (map.insert os u y) o)
  settled_put os u y f = at_put (λ j z. Settled (map.get os j) → Settled z) os u y f (λ j e i. i) o

  settled_cut : (os : Map KeptOutcome) (u : ℕ) → Settled (map.get os o) → Settled (map.get (map.remove os u) o)
  settled_cut os u = at_cut (λ j z. Settled (map.get os j) → Settled z) os u (λ i. tt) (λ j e i. i) o

  put_over : (c : List (ℕ × Value)) (os : Map KeptOutcome) (u : ℕ) (y : KeptOutcome) → (Settled (map.get os u) → Settled (Some y)) → IsComing c ⊎ Settled (map.get os o) → IsComing c ⊎ Settled (map.get (map.insert os u y) o)
  put_over c os u y f (inl k) = inl k
  put_over c os u y f (inr k) = inr (settled_put os u y f k)

  cut_over : (c : List (ℕ × Value)) (os : Map KeptOutcome) (u : ℕ) → IsComing c ⊎ Settled (map.get os o) → IsComing c ⊎ Settled (map.get (map.remove os u) o)
  cut_over c os u (inl k) = inl k
  cut_over c os u (inr k) = inr (settled_cut os u k)

  -- The next one becomes known.
  knows : (c : List (ℕ × Value)) (os : Map KeptOutcome) (u : ℕ) (v fit : Value) (x : KeptOutcome) → c ≡ (u, v) ∷ [] → IsComing c ⊎ Settled (map.get os o) → Settled (map.get (map.insert os u (kept_known x.caller fit x.waiting)) o)
  knows c os u v fit x e (inr k) = settled_put os u (kept_known x.caller fit x.waiting) (λ i. known x.caller fit x.waiting) k
  knows c os u v fit x e (inl k) =
      let both : ◌≡◌ {A = List (ℕ × Value)} ((u, v) ∷ []) ((o, k.0) ∷ []) = sym e ∙ k.1 in
      let one : ◌≡◌ {A = ℕ × Value} (u, v) (o, k.0) = cc in
      let same : u ≡ o = ap (λ (p : ℕ × Value). p.0) one in
      subst (λ j. Settled (map.get (map.insert os u (kept_known x.caller fit x.waiting)) j)) same
      (subst Settled (sym (get_put os u (kept_known x.caller fit x.waiting) u ∙ ap (λ b. cond b (Some (kept_known x.caller fit x.waiting)) (map.get os u)) (itself u))) (known x.caller fit x.waiting))

  next_comes : (c d : List (ℕ × Value)) (z : Option KeptOutcome) → c ≡ [] → IsComing c ⊎ Settled z → IsComing d ⊎ Settled z
  next_comes c d z e (inl k) = absurd (none_comes (subst IsComing e k))
  next_comes c d z e (inr k) = inr k

  acted : (d new : Moment) → Over d → Act d new → Over new
  acted d new i (act.Delivers c n rest u e f h) = rw h i
  acted d new i (act.Waits c n rest p calls e f j h) = rw h i
  acted d new i (act.Holds c n rest u path x e f j h) = rw h (put_over d.coming d.state.outcomes u (record x { waiting = x.waiting ++ record { path = path; call = c } ∷ [] }) (λ k. subst Settled j k) i)
  acted d new i (act.Relays c n rest q t ds es e f j k h) = rw h i
  acted d new i (act.Breaks c n rest reason e f h) = rw h i
  acted d new i (act.NextArisen u v rest e f h) = rw h (next_comes d.coming ((u, v) ∷ []) (map.get d.state.outcomes o) (ap (λ (n : Moment). n.coming) e) i)
  acted d new i (act.Knows u v fit x ps e f j k h) = rw h (inr (knows d.coming d.state.outcomes u v fit x (ap (λ (n : Moment). n.coming) e) i))
  acted d new i (act.Reports c v from e f h) = rw h i
  acted d new i (act.TellsNobody c v e f h) = rw h i
  acted d new i (act.MakesReturn q v x b ds es e f j k h) = rw h i
  acted d new i (act.SendsReturn x y e f j h) = rw h i
  acted d new i (act.Clears x e f h) = rw h (put_over d.coming d.state.outcomes x.outcome (kept_known x.caller x.value []) (λ k. known x.caller x.value []) i)
  acted d new i (act.Lists x e h) = rw h i
  acted d new i (act.SendsResolve x rest k es e w f h) = rw h i
  acted d new i (act.SendsBroken x rest reason e f h) = rw h i
  acted d new i (act.PromiseGoes p to w e f h) = rw h i
  acted d new i (act.OutcomeGoes u x v w e f j k l h) = rw h (cut_over d.coming d.state.outcomes u i)
  acted d new i (act.ImportGoes k x w e f h) = rw h i
  acted d new i (act.Sweeps over e f j h) = rw h i
  acted d new i (act.SendsFinish q x rest e f j k l h) = rw h i
  acted d new i (act.Closes q x rest e f j k l h) = rw h i
  acted d new i (act.Releases w e f h) = rw h i

  -- It is the outcome of the task that ends.
  module _ (s : State) (k : TaskId) (there : map.get s.tasks k.0 ≡ Some o) where
    comes : (u : TaskId) (n : ℕ) (v : Value) → k ≡ u → map.get s.tasks u.0 ≡ Some n → IsComing ((n, v) ∷ [])
    comes u n v e f =
        let both : Some n ≡ Some o = sym f ∙ ap (λ (j : TaskId). map.get s.tasks j.0) (sym e) ∙ there in
        let same : n ≡ o = cc in
        (v, ap (λ (j : ℕ). (j, v) ∷ []) same)

    started : (c : Command) → EndsTask k c → (g : Granted) (new : Moment) → Starts (beginning s) c g new → Over new
    started c ends g new (first.Answers u payload refs n e f a h) = rw h (inl (comes u n _ (subst (EndsTask k) e ends) f))
    started c ends g new (first.Fails u why n e f a h) = rw h (inl (comes u n _ (subst (EndsTask k) e ends) f))
    started c ends g new (first.Hosts u e a h) = absurd (subst (EndsTask k) e ends)
    started c ends g new (first.Clones r x e f a h) = absurd (subst (EndsTask k) e ends)
    started c ends g new (first.Drops r x e f a h) = absurd (subst (EndsTask k) e ends)
    started c ends g new (first.AsksRoot q e f a h) = absurd (subst (EndsTask k) e ends)
    started c ends g new (first.CallsOut y x q t ds es e f j l m n a h) = absurd (subst (EndsTask k) e ends)
    started c ends g new (first.CallsHere y x u e f j l m a h) = absurd (subst (EndsTask k) e ends)
    started c ends g new (first.CallsLater y x u z b e f j l m a h) = absurd (subst (EndsTask k) e ends)
    started c ends g new (first.NamesField y path from e f a h) = absurd (subst (EndsTask k) e ends)
    started c ends g new (first.Promises p e f a h) = absurd (subst (EndsTask k) e ends)
    started c ends g new (first.Fixes p r x key calls e f j l a h) = absurd (subst (EndsTask k) e ends)
    started c ends g new (first.Rejects p why key calls e f j a h) = absurd (subst (EndsTask k) e ends)
    started c ends g new (first.Finishes y from e f a h) = absurd (subst (EndsTask k) e ends)
    started c ends g new (first.StaysPut r x e f a h) = absurd (subst (EndsTask k) e ends)
    started c ends g new (first.Breaks r x reason e f j l a h) = absurd (subst (EndsTask k) e ends)
    started c ends g new (first.Switches r x by n e f j l m z a h) = absurd (subst (EndsTask k) e ends)
    started c ends g new (first.Turns r x by n t y e f j l m z w u a h) = absurd (subst (EndsTask k) e ends)

    settled : (c : Command) (g : Granted) (x : Effects) (t : State) → EndsTask k c → Does s c g x t → Settled (map.get t.outcomes o)
    settled c g x t ends h =
        let z = done Over s c g x t (started c ends g) acted h in
        rw z.ends.state (at_last (map.get z.last.state.outcomes o) z.last.coming (ap (λ (n : Moment). n.coming) z.ends.rest) z.holds)
      where
        at_last : (y : Option KeptOutcome) (c : List (ℕ × Value)) → c ≡ [] → IsComing c ⊎ Settled y → Settled y
        at_last y c e (inl k) = absurd (none_comes (subst IsComing e k))
        at_last y c e (inr k) = k

-- ---- Answers

returned : (a : AnswerEntry) (q : ℕ) (z : Option KeptOutcome) (r : Option (List ExportId)) → a.returned ≡ r → IsToldOnceKnown q a z → Settled z → unreturned r ≡ 0
returned a q z (Some ids) e h k = refl
returned a q None None e h k = absurd h
returned a q (Some x) None e h k = absurd (k (h.1.0 e))

module _ (t : State) (q o : ℕ) where
  answered : (a : Option AnswerEntry) → IsInStep t q a → Settled (map.get t.outcomes o) → IsReturnedBy o a
  answered None h k = tt
  answered (Some a) h k = λ same. returned a q (map.get t.outcomes a.outcome) a.returned refl h (subst (λ j. Settled (map.get t.outcomes j)) (sym same) k)

none_left : (s : State) (n : ℕ) (t : State) (q o : ℕ) → t ≡ fallen s n → IsReturnedBy o (map.get t.answers q)
none_left s n t q o e = rw e (subst (IsReturnedBy o) (sym (map.get-empty nat_cmp q)) tt)

pub task_ends_return : AnswersReturnOnceKnown → TaskEndsReturn
task_ends_return known s c g x t k o r ends there (Refuses f e p u) q = absurd (let bad : ◌≡◌ {A = Result Granted Refusal} (Ok g) (Err f) = p in cc)
task_ends_return known s c g x t k o r ends there (LacksMemory e f p u) q = absurd (let bad : ◌≡◌ {A = Result Granted Refusal} (Ok g) (Err _) = p in cc)
task_ends_return known s c g x t k o r ends there (GoesDown e f p u) q = none_left s want_of_room t q o u.new_is
task_ends_return known s c g x t k o r ends there (Shuts n e p u) q = absurd (subst (EndsTask k) e ends)
task_ends_return known s c g x t k o r ends there (IsDone given e p h w) q =
    answered t q o (map.get t.answers q) (known t (go_on s t r (Commanded c (Ok g) x (IsDone given e p h w) Stays)) q) (settled o s k there c given x t ends h)
