use Rattle.std.proofs.Common.{◌≡◌, ℕ, List, [], ◌∷◌, ◌++◌, length, Result, Ok, Err, refl, sym, ap, subst, ◌∙◌, arith}
use Rattle.std.specs.Prelude.{MatchOption, MatchResult}
use Rattle.std.specs.Result.{result_ok}
use Rattle.std.specs.Str.{IsUtf8}
use Rattle.std.proofs.lemmas.List.{length_push}
use Rattle.capn_reading.specs.Looking.{IsTextIn}
use Rattle.capn_reading.proofs.text.text_in.Goals as goal

last_is : (xs ys : List ℕ) (x y : ℕ) → xs ++ x ∷ [] ≡ ys ++ y ∷ [] → x ≡ y
last_is [] [] x y e = cc
last_is [] (b ∷ ys) x y e = let long = ap length e in let more = length_push ys y in absurd (omega (arith, long, more))
last_is (a ∷ xs) [] x y e = let long = ap length e in let more = length_push xs x in absurd (omega (arith, long, more))
last_is (a ∷ xs) (b ∷ ys) x y e = last_is xs ys x y cc

pub returns-in_default : goal.returns-in_default
returns-in_default c = λ s h.
    let long = ap length h.0 ∙ length_push s 0 in
    let none = c.in_default.ensures.cases in
    omega (arith, long, none)

pub returns-then-last-ne0 : goal.returns-then-last-ne0
returns-then-last-ne0 c = λ s h.
    c.if-last-ne0.true (last_is c.in-Some.text.now s c.in-Some.last.now 0 (sym c.in-Some.ensures.cases.0 ∙ h.0))

front_is : (xs ys : List ℕ) (x y : ℕ) → xs ++ x ∷ [] ≡ ys ++ y ∷ [] → xs ≡ ys
front_is [] [] x y e = refl
front_is [] (b ∷ ys) x y e = let long = ap length e in let more = length_push ys y in absurd (omega (arith, long, more))
front_is (a ∷ xs) [] x y e = let long = ap length e in let more = length_push xs x in absurd (omega (arith, long, more))
front_is (a ∷ xs) (b ∷ ys) x y e = let first : a ≡ b = cc in let rest = front_is xs ys x y cc in rw (first, rest) refl

-- a text before the zero, or none in the bytes
text_or_none : {X E : Type 0} (now : X → List ℕ) (Fault : E → Type 0) (bytes text : List ℕ) (r : Result X E) → bytes ≡ text ++ 0 ∷ []
    → MatchResult r (λ t. (now t ≡ text) × IsUtf8 text) (λ e. ¬ (IsUtf8 text) × Fault e) → MatchOption (result_ok r) ((s : List ℕ) → ¬ (IsTextIn bytes s)) (λ t. IsTextIn bytes (now t))
text_or_none now Fault bytes text (Ok t) is h = (is ∙ ap (λ (u : List ℕ). u ++ 0 ∷ []) (sym h.0), subst IsUtf8 (sym h.0) h.1)
text_or_none now Fault bytes text (Err e) is h = λ s found. h.0 (subst IsUtf8 (front_is s text 0 0 (sym found.0 ∙ is)) found.1)

pub returns : goal.returns
returns c =
    let is = c.in-Some.ensures.cases.0 ∙ ap (λ (n : ℕ). c.in-Some.text.now ++ n ∷ []) c.if-last-ne0.false in
    rw c.ok.ensures.value (text_or_none (λ t. t.now) _ c.args.bytes.now c.in-Some.text.now c.from_utf8.result is c.from_utf8.ensures.cases)
