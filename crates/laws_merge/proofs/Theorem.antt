-- The merge of two logs that fit is an interleaving.
use Rattle.std.proofs.Common.{◌≡◌, ℕ, ◌+◌, true, false, cond, List, [], ◌∷◌, ◌++◌, Option, length, map, refl, sym, ap, subst, ◌∙◌, ◌⊎◌, inl, append-nil}
use Rattle.laws_merge.specs.Machine.{Side, Run, moves_a, moves_b}
use Rattle.laws_merge.specs.Logs.{messages, Entry, move_of, counted, received, made_by, Lawful, LawfulLate, Acked, IsBeginningOf}
use Rattle.laws_merge.specs.Merge.{ready, merge, firsts, seconds}
use Rattle.laws_merge.specs.Laws.{waits_for, makes, event_of, merged, MergeInterleaves, LogsInterleave, CutLogsInterleave, AcksOfOneSideSuffice, LateAcksInterleave}
use Rattle.laws_merge.specs.declared.merge.OneOf.{OneOf}
use Rattle.laws_merge.specs.declared.merge.OneOf.TheVariants.{First, Second}
use Rattle.laws_merge.proofs.Queue.{From, from_beginning, from_lawful, late_lawful}
use Rattle.laws_merge.proofs.Moment.{Now, Last, Moment, world_of, world_last, first_happens, second_happens, first_ready, first_last, second_last, second_behind}

-- the merge has every entry of both, in order, whatever the logs
pub firsts-merge : {P Q : Type 0} (f : P → Option ℕ) (g : Q → ℕ) (k : ℕ) (xs : List P) (ys : List Q) → firsts (merge f g k xs ys) ≡ xs
firsts-merge f g k [] [] = refl
firsts-merge f g k [] (y ∷ ys) = firsts-merge f g (k + g y) [] ys
firsts-merge f g k (x ∷ xs) [] = ap (λ z. x ∷ z) (firsts-merge f g k xs [])
firsts-merge f g k (x ∷ xs) (y ∷ ys) =
    elim (ready (f x) k) as (λ b. firsts (cond b (First x ∷ merge f g k xs (y ∷ ys)) (Second y ∷ merge f g (k + g y) (x ∷ xs) ys)) ≡ x ∷ xs)
    [ true ↦ ap (λ z. x ∷ z) (firsts-merge f g k xs (y ∷ ys)) | false ↦ firsts-merge f g (k + g y) (x ∷ xs) ys ]

pub seconds-merge : {P Q : Type 0} (f : P → Option ℕ) (g : Q → ℕ) (k : ℕ) (xs : List P) (ys : List Q) → seconds (merge f g k xs ys) ≡ ys
seconds-merge f g k [] [] = refl
seconds-merge f g k [] (y ∷ ys) = ap (λ z. y ∷ z) (seconds-merge f g (k + g y) [] ys)
seconds-merge f g k (x ∷ xs) [] = seconds-merge f g k xs []
seconds-merge f g k (x ∷ xs) (y ∷ ys) =
    elim (ready (f x) k) as (λ b. seconds (cond b (First x ∷ merge f g k xs (y ∷ ys)) (Second y ∷ merge f g (k + g y) (x ∷ xs) ys)) ≡ y ∷ ys)
    [ true ↦ seconds-merge f g k xs (y ∷ ys) | false ↦ ap (λ z. y ∷ z) (seconds-merge f g (k + g y) (x ∷ xs) ys) ]

-- a beginning of a lawful log is lawful
lawful_cut : {I O : Type 0} (S : Side I O) (xs more : List (Entry S)) (old new : S.State) (r k : ℕ) → Lawful S old r k (xs ++ more) new → (mid : S.State) × Lawful S old r k xs mid
lawful_cut S [] more old new r k l = (old, refl)
lawful_cut S (x ∷ xs) more old new r k l =
    let h = lawful_cut S xs more l.0 new (counted r x.cause) (k + length x.made) l.3 in
    (h.0, (l.0, l.1, l.2, h.1))

module _ {X Y : Type 0} (A : Side Y X) (B : Side X Y) where
  -- the events at a side are the moves of its entries
  pub moves_a-events : (ts : List (OneOf (Entry A) (Entry B))) → moves_a A B (map event_of ts) ≡ map move_of (firsts ts)
  moves_a-events [] = refl
  moves_a-events (First x ∷ ts) = ap (λ z. move_of x ∷ z) (moves_a-events ts)
  moves_a-events (Second y ∷ ts) = moves_a-events ts

  pub moves_b-events : (ts : List (OneOf (Entry A) (Entry B))) → moves_b A B (map event_of ts) ≡ map move_of (seconds ts)
  moves_b-events [] = refl
  moves_b-events (First x ∷ ts) = moves_b-events ts
  moves_b-events (Second y ∷ ts) = ap (λ z. move_of y ∷ z) (moves_b-events ts)

  -- these entries lead from this moment to the end
  abbrev pub Runs : Last A B → Now A B → List (OneOf (Entry A) (Entry B)) → Type 0
  Runs z w ts = Run A B (world_of A B w) (map event_of ts) (world_last A B z)

  -- where nothing is left of both logs, the moment is the end
  ended : (z : Last A B) (w : Now A B) → Moment A B z w [] [] → world_last A B z ≡ world_of A B w
  ended z w m =
      ap (λ q. record { a = q; b = z.b; to_a = messages z.to_a; to_b = messages z.to_b }) m.law_a
      ∙ (ap (λ q. record { a = w.a; b = q; to_a = messages z.to_a; to_b = messages z.to_b }) m.law_b
      ∙ (ap (λ q. record { a = w.a; b = w.b; to_a = messages q; to_b = messages z.to_b }) (m.come_a ∙ append-nil w.to_a)
      ∙ ap (λ q. record { a = w.a; b = w.b; to_a = messages w.to_a; to_b = messages q }) (m.come_b ∙ append-nil w.to_b)))

  -- from each moment on the merge of what is left leads to the end: what it takes next can happen
  pub merge_runs : (z : Last A B) (w : Now A B) (k : ℕ) (xs : List (Entry A)) (ys : List (Entry B)) → w.made_b ≡ k → Moment A B z w xs ys → Runs z w (merge waits_for makes k xs ys)
  merge_runs z w k [] [] e m = ended z w m
  merge_runs z w k [] (y ∷ ys) e m =
      let h = second_happens A B z w [] y ys m (second_last A B z w y ys m) in
      (world_of A B h.0, h.1, merge_runs z h.0 (k + makes y) [] ys (h.3 ∙ ap (λ n. n + makes y) e) h.2)
  merge_runs z w k (x ∷ xs) [] e m =
      let h = first_happens A B z w x xs [] m (first_last A B z w x xs m) in
      (world_of A B h.0, h.1, merge_runs z h.0 k xs [] (h.3 ∙ e) h.2)
  merge_runs z w k (x ∷ xs) (y ∷ ys) e m =
      elim (ready (waits_for x) k) as (λ b. ready (waits_for x) k ≡ b → Runs z w (cond b (First x ∷ merge waits_for makes k xs (y ∷ ys)) (Second y ∷ merge waits_for makes (k + makes y) (x ∷ xs) ys))) [
        | true ↦ λ t.
            let h = first_happens A B z w x xs (y ∷ ys) m (first_ready A B z w x xs (y ∷ ys) m (ap (ready (waits_for x)) e ∙ t)) in
            (world_of A B h.0, h.1, merge_runs z h.0 k xs (y ∷ ys) (h.3 ∙ e) h.2)
        | false ↦ λ t.
            let h = second_happens A B z w (x ∷ xs) y ys m (second_behind A B z w x xs y ys m (ap (ready (waits_for x)) e ∙ t)) in
            (world_of A B h.0, h.1, merge_runs z h.0 (k + makes y) (x ∷ xs) ys (h.3 ∙ ap (λ n. n + makes y) e) h.2)
      ]
      refl

  -- The theorem in its strongest form: late acks, looked at by one side.
  interleaved : (a : A.State) (b : B.State) (xs : List (Entry A)) (ys : List (Entry B)) (last_a : A.State) (last_b : B.State) → LawfulLate A a 0 0 xs last_a → LawfulLate B b 0 0 ys last_b → (to_a : IsBeginningOf (received xs) (made_by ys)) (to_b : IsBeginningOf (received ys) (made_by xs)) → Acked 0 xs ⊎ Acked 0 ys → MergeInterleaves A B a b xs ys last_a last_b to_a.0 to_b.0
  interleaved a b xs ys last_a last_b law_a law_b to_a to_b acks =
      let z : Last A B = record { a = last_a; b = last_b; to_a = to_a.0; to_b = to_b.0 } in
      let w : Now A B = record { a = a; b = b; to_a = []; to_b = []; got_a = 0; got_b = 0; made_a = 0; made_b = 0 } in
      let es = merged xs ys in
      record {
        of_a = firsts-merge waits_for makes 0 xs ys;
        of_b = seconds-merge waits_for makes 0 xs ys;
        explained = record {
          at_a = moves_a-events es ∙ ap (map move_of) (firsts-merge waits_for makes 0 xs ys);
          at_b = moves_b-events es ∙ ap (map move_of) (seconds-merge waits_for makes 0 xs ys);
          run = merge_runs z w 0 xs ys refl (record {
            law_a = law_a;
            law_b = law_b;
            come_a = to_a.1;
            come_b = to_b.1;
            seqs = from_beginning 0 (received xs) to_a.0 (subst (λ q. From 0 q) (sym to_a.1) (from_lawful B ys b last_b 0 0 law_b));
            acks = acks;
            count_a = refl;
            count_b = refl;
          });
        };
      }

  pub acks_of_one_side_suffice : AcksOfOneSideSuffice A B
  acks_of_one_side_suffice a b xs ys last_a last_b law_a law_b to_a to_b acks =
      interleaved a b xs ys last_a last_b (late_lawful A xs a last_a 0 0 law_a) (late_lawful B ys b last_b 0 0 law_b) to_a to_b acks

  pub late_acks_interleave : LateAcksInterleave A B
  late_acks_interleave a b xs ys last_a last_b law_a law_b fit =
      interleaved a b xs ys last_a last_b law_a law_b fit.to_a fit.to_b (inl fit.acks_a)

  pub logs_interleave : LogsInterleave A B
  logs_interleave a b xs ys last_a last_b law_a law_b fit =
      acks_of_one_side_suffice a b xs ys last_a last_b law_a law_b fit.to_a fit.to_b (inl fit.acks_a)

  pub cut_logs_interleave : CutLogsInterleave A B
  cut_logs_interleave a b xs more_xs ys more_ys last_a last_b law_a law_b fit =
      let h = lawful_cut A xs more_xs a last_a 0 0 law_a in
      let g = lawful_cut B ys more_ys b last_b 0 0 law_b in
      (h.0, g.0, logs_interleave a b xs ys h.0 g.0 h.1 g.1 fit)
