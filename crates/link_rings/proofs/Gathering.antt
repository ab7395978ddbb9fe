-- Two ends of one link have logs that fit, and so one order.
use Rattle.std.proofs.Common.{◌≡◌, ℕ, ◌+◌, true, false, cond, Option, List, [], ◌∷◌, ◌++◌, length, map, refl, sym, ap, ap₂, ◌∙◌, append_assoc, nat_lt}
use Rattle.std.proofs.lemmas.List.{map-append}
use Rattle.laws_merge.specs.Machine.{Input, Command, Shut, Receive}
use Rattle.laws_merge.specs.Logs as logs
use Rattle.laws_merge.specs.Logs.{number_of, received, made_by, IsBeginningOf, Fit}
use Rattle.laws_merge.specs.Merge.{merge, ready, view_by}
use Rattle.laws_merge.specs.declared.merge.OneOf.TheVariants.{First, Second}
use Rattle.laws_merge.proofs.Theorem.{logs_interleave}
use Rattle.laws_merge.proofs.Views.{merge_of_views}
use Rattle.link_rings.specs.declared.frame.Frame.{Frame}
use Rattle.link_rings.specs.declared.entry.Entry.{Entry}
use Rattle.link_rings.specs.Logs.{frame_of, framed, cause_by, party, entry_of, log_of}
use Rattle.link_rings.specs.Waiting.{frames_from}
use Rattle.link_rings.specs.Parties.{is_receipt}
use Rattle.link_rings.specs.Entries.{Place}
use Rattle.link_rings.specs.Kept.{Runs, Passes}
use Rattle.link_rings.specs.Gather.{waits, makes, IsGathered, IsExplained}
use Rattle.link_rings.proofs.Growing.{counts}

-- when an entry can come
pub ready_receipt : {C M : Type 0} (i : Input C M) (s a k : ℕ) → is_receipt i ≡ true → nat_lt s k ≡ ready (number_of (cause_by s a i)) k
ready_receipt (Command c) s a k e = absurd (cc)
ready_receipt Shut s a k e = absurd (cc)
ready_receipt (Receive m) s a k e = refl

pub ready_other : {C M : Type 0} (i : Input C M) (s a k : ℕ) → is_receipt i ≡ false → true ≡ ready (number_of (cause_by s a i)) k
ready_other (Command c) s a k e = refl
ready_other Shut s a k e = refl
ready_other (Receive m) s a k e = absurd (cc)

-- what one received is a beginning of what the other made
begins : {M : Type 0} (got made : List (logs.Frame M)) (popped known pushed waiting : List (Frame M)) → IsBeginningOf got (framed popped) → popped ++ known ≡ pushed → framed pushed ++ framed waiting ≡ made → IsBeginningOf got made
begins got made popped known pushed waiting g r m = (
  g.0 ++ (framed known ++ framed waiting),
  sym (append_assoc got g.0 (framed known ++ framed waiting))
      ∙ (ap (λ z. z ++ (framed known ++ framed waiting)) g.1
      ∙ (sym (append_assoc (framed popped) (framed known) (framed waiting))
      ∙ (ap (λ z. z ++ framed waiting) (sym (map-append frame_of popped known) ∙ ap framed r) ∙ m))),
)

merge_cong : {P Q : Type 0} (f : P → Option ℕ) (g h : Q → ℕ) → ((y : Q) → g y ≡ h y) → (k : ℕ) (xs : List P) (ys : List Q) → merge f g k xs ys ≡ merge f h k xs ys
merge_cong f g h e k [] [] = refl
merge_cong f g h e k [] (y ∷ ys) = ap (λ z. Second y ∷ z) (merge_cong f g h e (k + g y) [] ys ∙ ap (λ q. merge f h (k + q) [] ys) (e y))
merge_cong f g h e k (x ∷ xs) [] = ap (λ z. First x ∷ z) (merge_cong f g h e k xs [])
merge_cong f g h e k (x ∷ xs) (y ∷ ys) =
    ap₂ (λ p q. cond (ready (f x) k) (First x ∷ p) (Second y ∷ q)) (merge_cong f g h e k xs (y ∷ ys))
    (merge_cong f g h e (k + g y) (x ∷ xs) ys ∙ ap (λ q. merge f h (k + q) (x ∷ xs) ys) (e y))

module _ {S C M N : Type 0} (input : N → Input C M) (sends : N → List M) (step : S → N → S → Type 0) where
  pub gathered : (start_a start_b : S) (down_a down_b : Option ℕ) (a b : Place S M N) (pushed_a popped_a pushed_b popped_b known_a known_b : List (Frame M))
      → Runs input sends step start_a a → Passes input sends step down_a a pushed_a popped_a → Runs input sends step start_b b → Passes input sends step down_b b pushed_b popped_b
      → popped_a ++ known_a ≡ pushed_b → popped_b ++ known_b ≡ pushed_a → IsGathered input sends step start_a start_b a b
  gathered start_a start_b down_a down_b a b pushed_a popped_a pushed_b popped_b known_a known_b ra pa rb pb to_a to_b = record {
    runs_a = ra;
    runs_b = rb;
    fit = record {
      to_a = begins (received (log_of input sends step a.log)) (made_by (log_of input sends step b.log)) popped_a known_a pushed_b b.waiting.frames pa.inward to_a pb.outward;
      to_b = begins (received (log_of input sends step b.log)) (made_by (log_of input sends step a.log)) popped_b known_b pushed_a a.waiting.frames pb.inward to_b pa.outward;
      acks_a = ra.acked;
      acks_b = rb.acked;
    };
  }

  pub explained : (start_a start_b : S) (a b : Place S M N) → IsGathered input sends step start_a start_b a b → IsExplained input sends step start_a start_b a.state b.state a.log b.log
  explained start_a start_b a b g =
      let P = party input sends step in
      let f = entry_of input sends step in record {
        fit = g.fit;
        order_is =
            ap (map (view_by f f)) (merge_cong (waits input) (makes sends) (λ q. length (framed (frames_from q.first q.heard (sends q.note)))) (λ q. counts q.first q.heard (sends q.note)) 0 a.log b.log)
            ∙ merge_of_views (Entry N) (Entry N) P P f f a.log b.log;
        explains = logs_interleave P P start_a start_b (log_of input sends step a.log) (log_of input sends step b.log) a.state b.state (g.runs_a).lawful (g.runs_b).lawful g.fit;
      }
