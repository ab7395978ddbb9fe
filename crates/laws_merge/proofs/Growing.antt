-- A log goes on by one entry.
use Rattle.std.proofs.Common.{◌≡◌, ℕ, ◌+◌, List, [], ◌∷◌, ◌++◌, length, refl, sym, ap, subst, ◌∙◌, append_assoc, append-nil, arith, length-append}
use Rattle.laws_merge.specs.Machine.{Side}
use Rattle.laws_merge.specs.Logs.{Frame, messages, Cause, Commanded, WasShut, Received, input_of, got, counted, Entry, received, made_by, Numbered, Lawful, AckWithin, Acked}
use Rattle.laws_merge.specs.Laws.{LogGrows, AckedGrows, FramesGrow}

-- what two parts of a log received
pub received-append : {I O : Type 0} {S : Side I O} (xs ys : List (Entry S)) → received (xs ++ ys) ≡ received xs ++ received ys
received-append [] ys = refl
received-append (x ∷ xs) ys = ap (λ z. got x.cause ++ z) (received-append xs ys) ∙ sym (append_assoc (got x.cause) (received xs) (received ys))

-- what two parts of a log made
pub made_by-append : {I O : Type 0} {S : Side I O} (xs ys : List (Entry S)) → made_by (xs ++ ys) ≡ made_by xs ++ made_by ys
made_by-append [] ys = refl
made_by-append (x ∷ xs) ys = ap (λ z. x.made ++ z) (made_by-append xs ys) ∙ sym (append_assoc x.made (made_by xs) (made_by ys))

-- the count of received frames, with a cause and what follows
got_counts : {C I : Type 0} (c : Cause C I) (fs : List (Frame I)) (r : ℕ) → r + length (got c ++ fs) ≡ counted r c + length fs
got_counts (Commanded c) fs r = refl
got_counts WasShut fs r = refl
got_counts (Received f) fs r = omega arith

-- the lemma behind LogGrows, from any counts
lawful_more : {I O : Type 0} (S : Side I O) (xs : List (Entry S)) (e : Entry S) (old mid new : S.State) (r k : ℕ) → Lawful S old r k xs mid → S.Step mid (input_of e.cause) e.note (messages e.made) new → Numbered (k + length (made_by xs)) (counted (r + length (received xs)) e.cause) e.made → Lawful S old r k (xs ++ e ∷ []) new
lawful_more S [] e old mid new r k l st n =
    let N : ℕ → ℕ → Type 0 = λ a b. Numbered a (counted b e.cause) e.made in
    let ea : k + 0 ≡ k = omega arith in
    let eb : r + 0 ≡ r = omega arith in
    (new, subst (λ q. S.Step q (input_of e.cause) e.note (messages e.made) new) l st, subst (λ b. N k b) eb (subst (λ a. N a (r + 0)) ea n), refl)
lawful_more S (x ∷ xs) e old mid new r k l st n =
    let N : ℕ → ℕ → Type 0 = λ a b. Numbered a (counted b e.cause) e.made in
    let ea : k + length (x.made ++ made_by xs) ≡ k + length x.made + length (made_by xs) = omega (arith, length-append x.made (made_by xs)) in
    let eb : r + length (got x.cause ++ received xs) ≡ counted r x.cause + length (received xs) = got_counts x.cause (received xs) r in (
      l.0,
      l.1,
      l.2,
      lawful_more S xs e l.0 mid new (counted r x.cause) (k + length x.made) l.3 st
          (subst (λ b. N (k + length x.made + length (made_by xs)) b) eb (subst (λ a. N a (r + length (got x.cause ++ received xs))) ea n)),
    )

-- the lemma behind AckedGrows, from any count
acked_more : {I O : Type 0} {S : Side I O} (xs : List (Entry S)) (e : Entry S) (k : ℕ) → Acked k xs → AckWithin (k + length (made_by xs)) e.cause → Acked k (xs ++ e ∷ [])
acked_more [] e k a h =
    let ea : k + 0 ≡ k = omega arith in
    (subst (λ z. AckWithin z e.cause) ea h, tt)
acked_more (x ∷ xs) e k a h =
    let ea : k + length (x.made ++ made_by xs) ≡ k + length x.made + length (made_by xs) = omega (arith, length-append x.made (made_by xs)) in
    (a.0, acked_more xs e (k + length x.made) a.1 (subst (λ z. AckWithin z e.cause) ea h))

pub log_grows : {I O : Type 0} (S : Side I O) → LogGrows S
log_grows S xs e old mid new l step n =
    let ea : length (made_by xs) ≡ 0 + length (made_by xs) = omega arith in
    let eb : length (received xs) ≡ 0 + length (received xs) = omega arith in
    lawful_more S xs e old mid new 0 0 l step
    (subst (λ b. Numbered (0 + length (made_by xs)) (counted b e.cause) e.made) eb (subst (λ a. Numbered a (counted (length (received xs)) e.cause) e.made) ea n))

pub acked_grows : {I O : Type 0} (S : Side I O) → AckedGrows S
acked_grows S xs e a h =
    let ea : length (made_by xs) ≡ 0 + length (made_by xs) = omega arith in
    acked_more xs e 0 a (subst (λ k. AckWithin k e.cause) ea h)

pub frames_grow : {I O : Type 0} (S : Side I O) → FramesGrow S
frames_grow S xs e =
    (received-append xs (e ∷ []) ∙ ap (λ z. received xs ++ z) (append-nil (got e.cause)), made_by-append xs (e ∷ []) ∙ ap (λ z. made_by xs ++ z) (append-nil e.made))
