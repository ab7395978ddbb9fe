-- A turn of an exchange.
use Rattle.std.proofs.Common.{◌≡◌, ◌∙◌, ◌==◌, ◌&&◌, ℕ, zero, suc, Bool, true, false, List, [], ◌∷◌, length, refl, sym, ap, subst}
use Rattle.std.proofs.Math.Dec.{eqb-suc-zero}
use Rattle.rpc_msg.specs.declared.message.Message.{Message}
use Rattle.vat_host.specs.Hosting.{Hosted, Hears}
use Rattle.vat_host.specs.Exchanging.{HearsAll, Carries, Exchanges}

-- So far these went over, and the rest is still to go.
abbrev pub Going : Hosted → Hosted → Hosted → Hosted → Type 0
Going start_from start_to from to =
    ((new : Hosted) → HearsAll to from.messages new → HearsAll start_to start_from.messages new)
    × (record from { messages = [] } ≡ record start_from { messages = [] })

pub one_goes : (start_from start_to from to from1 to1 : Hosted) (m : Message) → from ≡ record from1 { messages = m ∷ from1.messages } → Hears to m to1
    → Going start_from start_to from to → Going start_from start_to from1 to1
one_goes start_from start_to from to from1 to1 m e h g =
    let q : Going start_from start_to (record from1 { messages = m ∷ from1.messages }) to = subst (λ (f : Hosted). Going start_from start_to f to) e g in
    ((λ new hs. q.0 new (to1, h, hs)), q.1)

-- A round takes one off those that are left.
pub one_round : (k n : ℕ) (a b a1 b1 a2 b2 : Hosted) → k ≡ suc n → Carries a b a1 b1 → Carries b1 a1 b2 a2
    → (c d : Hosted) → Exchanges n a2 b2 c d → Exchanges k a b c d
one_round k n a b a1 b1 a2 b2 e there back c d rest = subst (λ (j : ℕ). Exchanges j a b c d) (sym e) (a1, b1, b2, a2, there, back, rest)

none_left : {T : Type 0} (xs ys : List T) → ((length xs == 0) && (length ys == 0)) ≡ true → (xs ≡ []) × (ys ≡ [])
none_left [] [] e = (refl, refl)
none_left [] (y ∷ ys) e = let k : ◌≡◌ {A = Bool} false true = sym (eqb-suc-zero (length ys)) ∙ e in cc
none_left (x ∷ xs) ys e = let k : ◌≡◌ {A = Bool} false true = sym (ap (λ t. t && (length ys == 0)) (eqb-suc-zero (length xs))) ∙ e in cc

carries_none : (x y : Hosted) → x.messages ≡ [] → Carries x y x y
carries_none x y k = (ap (λ ms. record x { messages = ms }) k, subst (λ ms. HearsAll y ms y) (sym k) refl)

none_goes : (n : ℕ) (a b : Hosted) → a.messages ≡ [] → b.messages ≡ [] → Exchanges n a b a b
none_goes zero a b e f = (refl, refl)
none_goes (suc n) a b e f = (a, b, b, a, carries_none a b e, carries_none b a f, none_goes n a b e f)

-- Where neither has a message, any number of rounds changes nothing.
pub all_quiet : (n : ℕ) (a b : Hosted) → ((length a.messages == 0) && (length b.messages == 0)) ≡ true → Exchanges n a b a b
all_quiet n a b e = let k = none_left a.messages b.messages e in none_goes n a b k.0 k.1

-- No round changes nothing.
pub none_more : (n : ℕ) (a b : Hosted) → n ≡ 0 → Exchanges n a b a b
none_more n a b e = subst (λ (j : ℕ). Exchanges j a b a b) (sym e) (refl, refl)
