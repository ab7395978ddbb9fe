-- Choices by a decision, and functions after a change at one argument.
use Rattle.std.proofs.Common.{◌≡◌, refl}
use Rattle.laws_order.specs.Machine.{choose, changed}

-- What holds decides for the first value.
pub choose_yes : {P : Type 0} {B : Type 0} (d : Dec P) (a b : B) → P → choose d a b ≡ a
choose_yes (yes _) a b p = refl
choose_yes (no f) a b p = absurd (f p)

-- What does not hold decides for the second value.
pub choose_no : {P : Type 0} {B : Type 0} (d : Dec P) (a b : B) → (P → ⊥) → choose d a b ≡ b
choose_no (yes p) a b f = absurd (f p)
choose_no (no _) a b f = refl

-- What follows from both answers.
pub by_choice : {A : Type 0} {B : Type 0} (P : B → Type 0) (d : Dec A) (b c : B) → (A → P b) → ((A → ⊥) → P c) → P (choose d b c)
by_choice P (yes e) b c f g = f e
by_choice P (no e) b c f g = g e

-- Such a function at another argument, and at that one.
pub changed_other : {K B : Type 0} (same : (x y : K) → Dec (x ≡ y)) (f : K → B) (k : K) (b : B) (j : K) → (j ≡ k → ⊥) → changed same f k b j ≡ f j
changed_other same f k b j h = by_choice (λ z. z ≡ f j) (same j k) b (f j) (λ e. absurd (h e)) (λ e. refl)

pub changed_here : {K B : Type 0} (same : (x y : K) → Dec (x ≡ y)) (f : K → B) (k : K) (b : B) → changed same f k b k ≡ b
changed_here same f k b = by_choice (λ z. z ≡ b) (same k k) b (f k) (λ e. refl) (λ e. absurd (e refl))
