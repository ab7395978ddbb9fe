-- One question is finished.
use Rattle.std.proofs.Common.{◌≡◌, ◌≢◌, ℕ, ◌-◌, ◌<◌, ◌≤◌, Bool, true, false, cond, List, [], ◌∷◌, ◌++◌, Option, None, Some, refl, sym, ap, subst, ◌∙◌, arith, nat_le, nat_eq}
use Rattle.std.specs.Cmp.{nat_cmp_total}
use Rattle.std.specs.FinMap as map
use Rattle.std.specs.FinMap.{entries-insert}
use Rattle.finite_maps.specs.Tally.{Map}
use Rattle.finite_maps.proofs.Lens.{len_same, len_fewer}
use Rattle.finite_maps.proofs.Tested.{get_other, get_left, equal}
use Rattle.rpc_machine.specs.declared.entries.Import.{Import}
use Rattle.rpc_machine.specs.declared.entries.Question.{Question}
use Rattle.rpc_machine.specs.declared.entries.Returned.{Returned}
use Rattle.rpc_machine.specs.declared.entries.Finishing.TheVariants as finishing
use Rattle.rpc_machine.specs.State.{State}
use Rattle.rpc_machine.specs.Progress.{Progress}
use Rattle.rpc_machine.specs.Flags.{give_one, give_each, give_if}
use Rattle.rpc_machine.specs.Sweeping.{got_of, closed_map}
use Rattle.core_outbox.specs.Outgoing.{Outgoing, with_finish}
use Rattle.core_outbox.specs.Rising.{AllBelow}
use Rattle.core_outbox.proofs.Search.{put_last}
use Rattle.core_store.specs.declared.store.Store.{Store}
use Rattle.core_store.specs.Holding.{state_of, IsSound}
use Rattle.core_step.specs.declared.step.Step.{Step}
use Rattle.core_step.specs.InProgress.{IsEnding}
use Rattle.core_step_sweeps.specs.Ending.{close_giving, finished_if, OnlyFinishes}
use Rattle.laws_acts.proofs.Ends.{finished_other}

-- ---- Imports do not grow

given_one : (m : Map Import) (e : ℕ) (o : Option Import) → map.get m e ≡ o → map.len (give_one m e o) ≤ map.len m
given_one m e None at = omega (arith)
given_one m e (Some x) at = by (nat_le x.count 1) where
  by : (b : Bool) → map.len (cond b (map.remove m e) (map.insert m e (record x { count = x.count - 1 }))) ≤ map.len m
  by true = len_fewer m e
  by false = let n = len_same m e x (record x { count = x.count - 1 }) at in omega (arith, n)

given_each : (m : Map Import) (es : List ℕ) → map.len (give_each m es) ≤ map.len m
given_each m [] = omega (arith)
given_each m (e ∷ es) = let a = given_one m e (map.get m e) refl in let b = given_each (give_one m e (map.get m e)) es in omega (arith, a, b)

given_if : (s : State) (flag : Bool) (es : List ℕ) → map.len (give_if s flag es).imports ≤ map.len s.imports
given_if s false es = omega (arith)
given_if s true es = given_each s.imports es

pub fewer_given : (s : State) (q : ℕ) (flag : Bool) (o : Option Question) → map.len (close_giving s q flag o).imports ≤ map.len s.imports
fewer_given s q flag None = omega (arith)
fewer_given s q flag (Some x) = given_if s flag (got_of x.returned)

-- ---- What comes last

pub below_later : {X : Type 0} (k l : ℕ) (es : List (ℕ × X)) → k ≤ l → AllBelow k es → AllBelow l es
below_later k l [] less h = tt
below_later k l (e ∷ es) less h = (let a = h.0 in omega (arith, a, less), below_later k l es less h.1)

below_end : {X : Type 0} (k : ℕ) (es : List (ℕ × X)) (e : ℕ × X) → AllBelow k es → e.0 < k → AllBelow k (es ++ e ∷ [])
below_end k [] e h less = (less, tt)
below_end k (x ∷ es) e h less = (h.0, below_end k es e h.1 less)

pub below_put : (m : Map Bool) (q k : ℕ) (flag : Bool) → AllBelow q (map.entries m) → q < k → AllBelow k (map.entries (map.insert m q flag))
below_put m q k flag h less =
    subst (λ (es : List (ℕ × Bool)). AllBelow k es) (sym (entries-insert nat_cmp_total m q flag ∙ put_last q flag (map.entries m) h))
    (below_end k (map.entries m) (q, flag) (below_later q k (map.entries m) (omega (arith, less)) h) less)

-- ---- With a Finish

module _ (x : Step) (s : Store) (q : ℕ) (flag : Bool) (out : Outgoing) (is : out ≡ with_finish x.outbox q flag) where
  abbrev owed : Step
  owed = record x { store = s; outbox = out }

  pub only_owed : AllBelow q (map.entries x.outbox.finishes) → s.slack ≡ x.store.slack → OnlyFinishes q x owed
  only_owed h left = record {
    outbox = is ∙ ap (λ (o : Outgoing). record (x.outbox) { finishes = o.finishes; finish_room = o.finish_room }) (sym is);
    below = λ k less. subst (λ (o : Outgoing). AllBelow k (map.entries o.finishes)) (sym is) (below_put x.outbox.finishes q k flag h less);
    room = let r = ap (λ (o : Outgoing). o.finish_room) is in omega (arith, r);
    arisen = refl;
    left = left;
  }

  pub ending_owed : state_of s ≡ close_giving (state_of x.store) q flag (map.get (state_of x.store).questions q) → IsEnding x → IsSound s → s.slack ≡ x.store.slack → IsEnding owed
  ending_owed now h sound left =
      let n : map.len s.imports.entries ≡ map.len (close_giving (state_of x.store) q flag (map.get (state_of x.store).questions q)).imports = ap (λ (t : State). map.len t.imports) now in
      let f = fewer_given (state_of x.store) q flag (map.get (state_of x.store).questions q) in
      let a = ap (λ (o : Outgoing). o.room) is in
      let b = ap (λ (o : Outgoing). o.release_room) is in record {
        sound = sound;
        outbox = let r = h.outbox in omega (arith, a, left, r);
        arisen = let r = h.arisen in omega (arith, left, r);
        releases = let r = h.releases in omega (arith, b, left, n, f, r);
        can_abort = ap (λ (o : Outgoing). o.can_abort) is ∙ h.can_abort;
      }

-- ---- Without one

-- Nothing changes.
pub only_same : (x : Step) (q : ℕ) → AllBelow q (map.entries x.outbox.finishes) → OnlyFinishes q x x
only_same x q h = record { outbox = refl; below = λ k less. below_later q k (map.entries x.outbox.finishes) (omega (arith, less)) h; room = omega (arith); arisen = refl; left = refl }

-- The question closes.
module _ (x : Step) (s : Store) (q : ℕ) where
  abbrev waived : Step
  waived = record x { store = s }

  pub only_waived : AllBelow q (map.entries x.outbox.finishes) → s.slack ≡ x.store.slack → OnlyFinishes q x waived
  only_waived h left = record { outbox = refl; below = λ k less. below_later q k (map.entries x.outbox.finishes) (omega (arith, less)) h; room = omega (arith); arisen = refl; left = left }

-- ---- Other questions stay

others_closed : (m : Map Question) (q : ℕ) (x : Question) (r : Option Returned) (k : ℕ) → nat_eq k q ≡ false → map.get (closed_map m q x r) k ≡ map.get m k
others_closed m q x None k h = get_other m q (record x { finish = finishing.Sent }) k h
others_closed m q x (Some said) k h = get_left m q k h

questions_given : (s : State) (flag : Bool) (es : List ℕ) → (give_if s flag es).questions ≡ s.questions
questions_given s false es = refl
questions_given s true es = refl

others_if : (d : Progress) (q : ℕ) (o : Option Question) (k : ℕ) → nat_eq k q ≡ false → map.get (finished_if d q o).state.questions k ≡ map.get d.state.questions k
others_if d q None k h = refl
others_if d q (Some x) k h = finished_other d q x x.finish k h

other : (q k : ℕ) → k ≢ q → nat_eq k q ≡ false
other q k h = by (nat_eq k q) refl where
  by : (b : Bool) → nat_eq k q ≡ b → b ≡ false
  by true e = absurd (h (equal k q e))
  by false e = refl

pub others_stay : (d new : Progress) (q : ℕ) (o : Option Question) → new ≡ finished_if d q o → (k : ℕ) → k ≢ q → map.get new.state.questions k ≡ map.get d.state.questions k
others_stay d new q o is k h = ap (λ (p : Progress). map.get p.state.questions k) is ∙ others_if d q o k (other q k h)
