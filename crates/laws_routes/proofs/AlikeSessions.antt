-- Two readings of sessions that differ at one question.
use mathlib.Core.Path.{fun_ext}
use Rattle.std.proofs.Common.{◌≡◌, ℕ, Bool, nat_eq, true, false, cond, refl, sym, ap, ◌∙◌, arith, List, [], ◌∷◌}
use Rattle.finite_maps.proofs.Tested.{equal}
use Rattle.rpc_msg.specs.declared.message.PlainMessage.TheVariants as plain
use Rattle.rpc_msg.specs.declared.message.Message.{Message}
use Rattle.rpc_msg.specs.declared.message.Message.TheVariants as message
use Rattle.laws_routes.specs.Ghosts.{Ghost, with_at}
use Rattle.laws_routes.specs.Views.{past, past_one}
use Rattle.laws_routes.specs.QuietLaws.{opens}
use Rattle.laws_routes.specs.Premises.{EachOpen, OpenOf}

abbrev pub AlikeBut : ℕ → (ℕ → ℕ) → (ℕ → ℕ) → Type 0
AlikeBut q now then = (k : ℕ) → nat_eq k q ≡ false → then k ≡ now k

with_alike : (q k i : ℕ) (now then : ℕ → ℕ) → AlikeBut q now then → AlikeBut q (with_at now k i) (with_at then k i)
with_alike q k i now then h = λ j n. ap (λ z. cond (nat_eq j k) i z) (h j n)

with_same : (q k i : ℕ) (now then : ℕ → ℕ) → AlikeBut q now then → nat_eq k q ≡ true → with_at then k i ≡ with_at now k i
with_same q k i now then h e = fun_ext (λ j. by j (nat_eq j q) refl)
  where
    by : (j : ℕ) (b : Bool) → nat_eq j q ≡ b → with_at then k i j ≡ with_at now k i j
    by j true f =
        let a : j ≡ k = equal j q f ∙ sym (equal k q e) in
        let c : nat_eq j k ≡ true = grind (arith, a) in
        ap (λ b. cond b i (then j)) c ∙ sym (ap (λ b. cond b i (now j)) c)
    by j false f = ap (λ z. cond (nat_eq j k) i z) (h j f)

pub past_alike : (q : ℕ) (g : Ghost) (now then : ℕ → ℕ) (m : Message) → AlikeBut q now then → AlikeBut q (past_one g now m) (past_one g then m)
past_alike q g now then (message.Plain (plain.Abort exception)) h = h
past_alike q g now then (message.Plain (plain.Bootstrap k)) h = with_alike q k.0 (g.session k.0) now then h
past_alike q g now then (message.Plain (plain.Call c)) h = with_alike q c.question.0 (g.session c.question.0) now then h
past_alike q g now then (message.Plain (plain.Return r)) h = h
past_alike q g now then (message.Plain (plain.Finish x)) h = h
past_alike q g now then (message.Plain (plain.Resolve r)) h = h
past_alike q g now then (message.Plain (plain.Release r)) h = h
past_alike q g now then (message.Plain (plain.Disembargo x)) h = h
past_alike q g now then (message.Plain (plain.Other n)) h = h
past_alike q g now then (message.Unimplemented m) h = h

pub past_opened : (q : ℕ) (g : Ghost) (now then : ℕ → ℕ) (m : Message) → AlikeBut q now then → opens q m ≡ true → past_one g then m ≡ past_one g now m
past_opened q g now then (message.Plain (plain.Abort exception)) h e = cc
past_opened q g now then (message.Plain (plain.Bootstrap k)) h e = with_same q k.0 (g.session k.0) now then h e
past_opened q g now then (message.Plain (plain.Call c)) h e = with_same q c.question.0 (g.session c.question.0) now then h e
past_opened q g now then (message.Plain (plain.Return r)) h e = cc
past_opened q g now then (message.Plain (plain.Finish x)) h e = cc
past_opened q g now then (message.Plain (plain.Resolve r)) h e = cc
past_opened q g now then (message.Plain (plain.Release r)) h e = cc
past_opened q g now then (message.Plain (plain.Disembargo x)) h e = cc
past_opened q g now then (message.Plain (plain.Other n)) h e = cc
past_opened q g now then (message.Unimplemented m) h e = cc

-- ---- A question that no message asks

pub flipped : (j k : ℕ) → nat_eq j k ≡ false → nat_eq k j ≡ false
flipped j k e = grind (arith, e)

module _ (g : Ghost) (q : ℕ) where
  off_one : (now : ℕ → ℕ) (m : Message) → OpenOf (λ k. nat_eq k q ≡ false) m → past_one g now m q ≡ now q
  off_one now (message.Plain (plain.Abort exception)) h = refl
  off_one now (message.Plain (plain.Bootstrap k)) h = ap (λ b. cond b (g.session k.0) (now q)) (flipped k.0 q h)
  off_one now (message.Plain (plain.Call c)) h = ap (λ b. cond b (g.session c.question.0) (now q)) (flipped c.question.0 q h)
  off_one now (message.Plain (plain.Return r)) h = refl
  off_one now (message.Plain (plain.Finish x)) h = refl
  off_one now (message.Plain (plain.Resolve r)) h = refl
  off_one now (message.Plain (plain.Release r)) h = refl
  off_one now (message.Plain (plain.Disembargo x)) h = refl
  off_one now (message.Plain (plain.Other n)) h = refl
  off_one now (message.Unimplemented m) h = refl

  pub past_off : (now : ℕ → ℕ) (ms : List Message) → EachOpen (λ k. nat_eq k q ≡ false) ms → past g now ms q ≡ now q
  past_off now [] h = refl
  past_off now (m ∷ ms) h = past_off (past_one g now m) ms h.1 ∙ off_one now m h.0
