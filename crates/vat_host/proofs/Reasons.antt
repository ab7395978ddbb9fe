-- The reason that is to be told.
use Rattle.std.proofs.Common.{◌≡◌, ℕ, Bool, true, false, List, [], Option, Some, None, is_some, ◌⊎◌, refl, sym, subst}
use Rattle.vat_host.specs.Hosting.{IsReason}

pub kept_down : (d : Option ℕ) (given : Option (List ℕ)) (reason : List ℕ) → is_some d ≡ true → IsReason d given reason reason
kept_down None given reason down = absurd (let e : ◌≡◌ {A = Bool} false true = down in cc)
kept_down (Some n) given reason down = refl

pub kept_none : (d : Option ℕ) (given : Option (List ℕ)) (reason : List ℕ) → given ≡ None → IsReason d given reason reason
kept_none (Some n) given reason none = refl
kept_none None given reason none = subst (λ (g : Option (List ℕ)). IsReason None g reason reason) (sym none) refl

pub given : (d : Option ℕ) (given : Option (List ℕ)) (text old new : List ℕ) → is_some d ≡ false → given ≡ Some text → ((new ≡ text) ⊎ (new ≡ [])) → IsReason d given old new
given (Some n) g text old new up is copied = absurd (let e : ◌≡◌ {A = Bool} true false = up in cc)
given None g text old new up is copied = subst (λ (g : Option (List ℕ)). IsReason None g old new) (sym is) copied
