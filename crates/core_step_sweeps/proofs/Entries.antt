-- Entries that went, and questions that were closed.
use Rattle.std.proofs.Common.{◌≡◌, ◌≢◌, ℕ, zero, suc, ◌<◌, true, cond, nat_eq, Option, None, Some, refl, sym, ap, subst, ◌∙◌, arith}
use Rattle.std.specs.FinMap as map
use Rattle.finite_maps.specs.Tally.{Map}
use Rattle.finite_maps.proofs.Gets.{at_each, get-insert_same, get-insert_other, get-remove_same, get-remove_other}
use Rattle.rpc_machine.specs.declared.entries.Question.{Question}
use Rattle.rpc_machine.specs.declared.entries.Returned.{Returned}
use Rattle.rpc_machine.specs.declared.entries.Finishing.TheVariants as finishing
use Rattle.rpc_machine.specs.Sweeping.{closed_map}
use Rattle.core_step_sweeps.specs.Thinking.{IsKept, IsKeptOpen, IsFinished, picked}
use Rattle.finite_maps.proofs.Tested.{itself}
use Rattle.core_refcounts.proofs.Counting.{other_key}

pub one_key : (j k : ℕ) → nat_eq j k ≡ true → k ≡ j
one_key j k e = grind (arith, e)

-- One more at the key p.
abbrev pub one_more : ℕ → (ℕ → ℕ) → ℕ → ℕ
one_more p f k = cond (nat_eq p k) (suc (f k)) (f k)

-- A fact of each number, where one more is counted at the key p.
pub with_one_more : (P : ℕ → ℕ → Type 0) (p : ℕ) (f : ℕ → ℕ) → P p (suc (f p)) → ((k : ℕ) → k ≢ p → P k (f k)) → (k : ℕ) → P k (one_more p f k)
with_one_more P p f here others =
    at_each (λ k. P k (one_more p f k)) p
    (subst (λ b. P p (cond b (suc (f p)) (f p))) (sym (itself p)) here)
    (λ k apart. subst (λ b. P k (cond b (suc (f k)) (f k))) (sym (other_key k p apart)) (others k apart))

pub kept_without : {X : Type 0} (old new : Map X) (p : ℕ) (f : ℕ → ℕ) → ((k : ℕ) → IsKept (f k) (map.get old k) (map.get new k)) → (k : ℕ) → IsKept (one_more p f k) (map.get old k) (map.get (map.remove new p) k)
kept_without {X} old new p f h =
    with_one_more (λ k n. IsKept n (map.get old k) (map.get (map.remove new p) k)) p f
    (get-remove_same new p)
    (λ k apart. subst (λ (o : Option X). IsKept (f k) (map.get old k) o) (sym (get-remove_other new p k apart)) (h k))

pub kept_closed : (old new : Map Question) (q : ℕ) (x : Question) (r : Option Returned) (f : ℕ → ℕ) → ((k : ℕ) → IsKeptOpen (f k) (map.get old k) (map.get new k))
    → (k : ℕ) → IsKeptOpen (one_more q f k) (map.get old k) (map.get (closed_map new q x r) k)
kept_closed old new q x None f h =
    let y : Question = record x { finish = finishing.Sent } in
    with_one_more (λ k n. IsKeptOpen n (map.get old k) (map.get (map.insert new q y) k)) q f
    (subst (λ (o : Option Question). IsFinished o) (sym (get-insert_same new q y)) (λ a. a))
    (λ k apart. subst (λ (o : Option Question). IsKeptOpen (f k) (map.get old k) o) (sym (get-insert_other new q y k apart)) (h k))
kept_closed old new q x (Some said) f h =
    with_one_more (λ k n. IsKeptOpen n (map.get old k) (map.get (map.remove new q) k)) q f
    (subst (λ (o : Option Question). IsFinished o) (sym (get-remove_same new q)) tt)
    (λ k apart. subst (λ (o : Option Question). IsKeptOpen (f k) (map.get old k) o) (sym (get-remove_other new q k apart)) (h k))

picked_same : (n : ℕ) (o : Option Question) → picked n o o ≡ o
picked_same zero o = refl
picked_same (suc n) o = refl

-- One question more, which stands so.
pub picked_more : (all over rest : Map Question) (q : ℕ) (x : Question) (f : ℕ → ℕ) → map.get all q ≡ Some x
    → ((k : ℕ) → map.get over k ≡ picked (f k) (map.get all k) (map.get (map.insert rest q x) k)) → (k : ℕ) → map.get over k ≡ picked (one_more q f k) (map.get all k) (map.get rest k)
picked_more all over rest q x f there h =
    with_one_more (λ k n. map.get over k ≡ picked n (map.get all k) (map.get rest k)) q f
    (h q ∙ ap (λ (o : Option Question). picked (f q) (map.get all q) o) (get-insert_same rest q x ∙ sym there) ∙ picked_same (f q) (map.get all q))
    (λ k apart. h k ∙ ap (λ (o : Option Question). picked (f k) (map.get all k) o) (get-insert_other rest q x k apart))

-- What went is not there, and what did not go is as it was.
pub is_gone : {X : Type 0} (n : ℕ) (old new : Option X) → 0 < n → IsKept n old new → ◌≡◌ {A = Option X} new None
is_gone zero old new h e = absurd (omega (arith, h))
is_gone (suc n) old new h e = e

pub is_finished : (n : ℕ) (old new : Option Question) → 0 < n → IsKeptOpen n old new → IsFinished new
is_finished zero old new h e = absurd (omega (arith, h))
is_finished (suc n) old new h e = e

pub is_there : {X : Type 0} (n : ℕ) (old new : Option X) → n ≡ 0 → IsKept n old new → ◌≡◌ {A = Option X} new old
is_there zero old new h e = e
is_there (suc n) old new h e = absurd (omega (arith, h))

pub is_open : (n : ℕ) (old new : Option Question) → n ≡ 0 → IsKeptOpen n old new → ◌≡◌ {A = Option Question} new old
is_open zero old new h e = e
is_open (suc n) old new h e = absurd (omega (arith, h))
