-- A moment of the merge: what is left of both logs, and what is on its way.
use Rattle.std.proofs.Common.{◌≡◌, ℕ, ◌+◌, ◌≤◌, true, false, List, [], ◌∷◌, ◌++◌, length, refl, sym, ◌∙◌, ◌⊎◌, inl, inr, append_assoc, arith, length-append}
use Rattle.laws_merge.specs.Machine.{Side, World, AtA, AtB, Happens}
use Rattle.laws_merge.specs.Logs.{Frame, messages, got, counted, Entry, move_of, received, made_by, LawfulLate, Acked}
use Rattle.laws_merge.specs.Merge.{ready}
use Rattle.laws_merge.specs.Laws.{waits_for}
use Rattle.laws_merge.proofs.Queue.{Served, messages-append, served_takes, served_last, From, from_got, served_ready, next_ack, waits_next, served_counted, served_or_next, not_made}

module _ {X Y : Type 0} (A : Side Y X) (B : Side X Y) where
  -- the state of both sides, the frames on their way, and how many each side has received and made
  pub record Now : Type 0 where
    pub a : A.State
    pub b : B.State
    pub to_a : List (Frame Y)
    pub to_b : List (Frame X)
    pub got_a : ℕ
    pub got_b : ℕ
    pub made_a : ℕ
    pub made_b : ℕ

  abbrev pub world_of : Now → World A B
  world_of w = record { a = w.a; b = w.b; to_a = messages w.to_a; to_b = messages w.to_b }

  -- where the logs end, and the frames that are made and never received
  pub record Last : Type 0 where
    pub a : A.State
    pub b : B.State
    pub to_a : List (Frame Y)
    pub to_b : List (Frame X)

  abbrev pub world_last : Last → World A B
  world_last z = record { a = z.a; b = z.b; to_a = messages z.to_a; to_b = messages z.to_b }

  -- At this moment xs and ys are left of the logs. What is left to be received, and then what is never received, is
  -- what is on its way, and then what is left to be made; acks are looked at by one side at least; what a side made is
  -- what the other received and what is on its way.
  pub record Moment (z : Last) (w : Now) (xs : List (Entry A)) (ys : List (Entry B)) : Type 0 where
    pub law_a : LawfulLate A w.a w.got_a w.made_a xs z.a
    pub law_b : LawfulLate B w.b w.got_b w.made_b ys z.b
    pub come_a : received xs ++ z.to_a ≡ w.to_a ++ made_by ys
    pub come_b : received ys ++ z.to_b ≡ w.to_b ++ made_by xs
    pub seqs : From w.got_a (received xs)
    pub acks : Acked w.made_a xs ⊎ Acked w.made_b ys
    pub count_a : w.made_b ≡ w.got_a + length w.to_a
    pub count_b : w.made_a ≡ w.got_b + length w.to_b

  -- the same equation, with the next cause apart
  next_come_a : (z : Last) (w : Now) (x : Entry A) (xs : List (Entry A)) (ys : List (Entry B)) → Moment z w (x ∷ xs) ys → got x.cause ++ (received xs ++ z.to_a) ≡ w.to_a ++ made_by ys
  next_come_a z w x xs ys m = sym (append_assoc (got x.cause) (received xs) z.to_a) ∙ m.come_a

  next_come_b : (z : Last) (w : Now) (xs : List (Entry A)) (y : Entry B) (ys : List (Entry B)) → Moment z w xs (y ∷ ys) → got y.cause ++ (received ys ++ z.to_b) ≡ w.to_b ++ made_by xs
  next_come_b z w xs y ys m = sym (append_assoc (got y.cause) (received ys) z.to_b) ∙ m.come_b

  -- the next entry of the first log happens
  pub first_happens : (z : Last) (w : Now) (x : Entry A) (xs : List (Entry A)) (ys : List (Entry B)) → Moment z w (x ∷ xs) ys → Served x.cause w.to_a → (v : Now) × Happens A B (world_of w) (AtA (move_of x)) (world_of v) × Moment z v xs ys × (v.made_b ≡ w.made_b)
  first_happens z w x xs ys m s =
      let t = served_takes x.cause (received xs ++ z.to_a) w.to_a (made_by ys) w.got_a (next_come_a z w x xs ys m) s in
      let l = m.law_a in
      let t_count : w.got_a + length w.to_a ≡ counted w.got_a x.cause + length t.0 = t.3 in
      let was_a : w.made_b ≡ w.got_a + length w.to_a = m.count_a in
      let was_b : w.made_a ≡ w.got_b + length w.to_b = m.count_b in
      let v : Now = record { a = l.0; b = w.b; to_a = t.0; to_b = w.to_b ++ x.made; got_a = counted w.got_a x.cause; got_b = w.got_b; made_a = w.made_a + length x.made; made_b = w.made_b } in (
        v,
        (l.1, refl, t.1, messages-append w.to_b x.made),
        record {
          law_a = l.3;
          law_b = m.law_b;
          come_a = t.2;
          come_b = m.come_b ∙ sym (append_assoc w.to_b x.made (made_by xs));
          seqs = from_got x.cause (received xs) w.got_a m.seqs;
          acks = elim m.acks [ inl h ↦ inl h.1 | inr h ↦ inr h ];
          count_a = was_a ∙ t_count;
          count_b = omega (arith, length-append w.to_b x.made);
        },
        refl,
      )

  -- the next entry of the second log happens
  pub second_happens : (z : Last) (w : Now) (xs : List (Entry A)) (y : Entry B) (ys : List (Entry B)) → Moment z w xs (y ∷ ys) → Served y.cause w.to_b → (v : Now) × Happens A B (world_of w) (AtB (move_of y)) (world_of v) × Moment z v xs ys × (v.made_b ≡ w.made_b + length y.made)
  second_happens z w xs y ys m s =
      let t = served_takes y.cause (received ys ++ z.to_b) w.to_b (made_by xs) w.got_b (next_come_b z w xs y ys m) s in
      let l = m.law_b in
      let t_count : w.got_b + length w.to_b ≡ counted w.got_b y.cause + length t.0 = t.3 in
      let was_a : w.made_b ≡ w.got_a + length w.to_a = m.count_a in
      let was_b : w.made_a ≡ w.got_b + length w.to_b = m.count_b in
      let v : Now = record { a = w.a; b = l.0; to_a = w.to_a ++ y.made; to_b = t.0; got_a = w.got_a; got_b = counted w.got_b y.cause; made_a = w.made_a; made_b = w.made_b + length y.made } in (
        v,
        (l.1, refl, t.1, messages-append w.to_a y.made),
        record {
          law_a = m.law_a;
          law_b = l.3;
          come_a = m.come_a ∙ sym (append_assoc w.to_a y.made (made_by ys));
          come_b = t.2;
          seqs = m.seqs;
          acks = elim m.acks [ inl h ↦ inl h | inr h ↦ inr h.1 ];
          count_a = omega (arith, length-append w.to_a y.made);
          count_b = was_b ∙ t_count;
        },
        refl,
      )

  -- the first log's next entry, where the merge finds that it can come
  pub first_ready : (z : Last) (w : Now) (x : Entry A) (xs : List (Entry A)) (ys : List (Entry B)) → Moment z w (x ∷ xs) ys → ready (waits_for x) w.made_b ≡ true → Served x.cause w.to_a
  first_ready z w x xs ys m t = served_ready x.cause (received xs) w.to_a w.got_a w.made_b m.seqs m.count_a t

  -- once the second log is over, the first one's next entry can come
  pub first_last : (z : Last) (w : Now) (x : Entry A) (xs : List (Entry A)) → Moment z w (x ∷ xs) [] → Served x.cause w.to_a
  first_last z w x xs m = served_last x.cause (received xs ++ z.to_a) w.to_a (next_come_a z w x xs [] m)

  -- once the first log is over, the second one's next entry can come
  pub second_last : (z : Last) (w : Now) (y : Entry B) (ys : List (Entry B)) → Moment z w [] (y ∷ ys) → Served y.cause w.to_b
  second_last z w y ys m = served_last y.cause (received ys ++ z.to_b) w.to_b (next_come_b z w [] y ys m)

  -- The key: where the merge finds that the first log's next entry can't come, the second one's can. Where the
  -- first log looks at acks: the frame that it waits for is made by an entry to come of the second, so its ack is at
  -- least what that has received with its next entry; and it is no more than what the first has made.
  behind_by_first : (z : Last) (w : Now) (x : Entry A) (xs : List (Entry A)) (y : Entry B) (ys : List (Entry B)) → Moment z w (x ∷ xs) (y ∷ ys) → Acked w.made_a (x ∷ xs) → ready (waits_for x) w.made_b ≡ false → Served y.cause w.to_b
  behind_by_first z w x xs y ys m acks t =
      let n = waits_next x.cause (received xs) (received xs ++ z.to_a) w.to_a (made_by (y ∷ ys)) w.got_a w.made_b w.made_a m.seqs acks.0 m.count_a (next_come_a z w x xs (y ∷ ys) m) t in
      let within : n.0.ack ≤ w.made_a = n.3 in
      let above : counted w.got_b y.cause ≤ n.0.ack = next_ack B y ys w.b z.b w.got_b w.made_b m.law_b n.0 n.1 n.2 in
      let count : w.made_a ≡ w.got_b + length w.to_b = m.count_b in
      served_counted y.cause w.to_b w.got_b (omega arith)

  -- Where the second log looks at acks: if it waited too, for a frame that the first makes next, that frame's ack would
  -- be at least what the first has received with its next entry, and no more than what the second has made; so the
  -- frame that the first waits for would be made.
  behind_by_second : (z : Last) (w : Now) (x : Entry A) (xs : List (Entry A)) (y : Entry B) (ys : List (Entry B)) → Moment z w (x ∷ xs) (y ∷ ys) → Acked w.made_b (y ∷ ys) → ready (waits_for x) w.made_b ≡ false → Served y.cause w.to_b
  behind_by_second z w x xs y ys m acks t =
      elim (served_or_next y.cause (received ys ++ z.to_b) w.to_b (made_by (x ∷ xs)) w.made_b acks.0 (next_come_b z w (x ∷ xs) y ys m)) [
        | inl s ↦ s
        | inr n ↦
            let within : n.0.ack ≤ w.made_b = n.3 in
            let above : counted w.got_a x.cause ≤ n.0.ack = next_ack A x xs w.a z.a w.got_a w.made_a m.law_a n.0 n.1 n.2 in
            absurd (not_made x.cause (received xs) w.got_a w.made_b m.seqs t (omega arith))
      ]

  pub second_behind : (z : Last) (w : Now) (x : Entry A) (xs : List (Entry A)) (y : Entry B) (ys : List (Entry B)) → Moment z w (x ∷ xs) (y ∷ ys) → ready (waits_for x) w.made_b ≡ false → Served y.cause w.to_b
  second_behind z w x xs y ys m t =
      elim m.acks [ inl h ↦ behind_by_first z w x xs y ys m h t | inr h ↦ behind_by_second z w x xs y ys m h t ]
