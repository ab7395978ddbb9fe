-- A Disembargo on its way is of an embargo that is there.
use Rattle.std.specs.FinMap as map
use Rattle.std.proofs.Common.{◌≡◌, ◌⊎◌, ◌≤◌, subst, inl, inr, ℕ, ◌+◌, suc, Bool, nat_eq, true, false, cond, List, [], ◌∷◌, Option, None, Some, IsSome, refl, sym, ap, ◌∙◌, arith}
use Rattle.finite_maps.proofs.Tested.{equal, itself}
use Rattle.rpc_msg.specs.declared.ids.Vat.{Vat}
use Rattle.rpc_msg.specs.Vats.{other_vat}
use Rattle.rpc_msg.specs.declared.ids.EmbargoId.{EmbargoId}
use Rattle.rpc_msg.specs.declared.parts.Target.{Target}
use Rattle.rpc_msg.specs.declared.message.DisembargoContext.{DisembargoContext}
use Rattle.rpc_msg.specs.declared.message.DisembargoContext.TheVariants.{SenderLoopback, ReceiverLoopback}
use Rattle.rpc_msg.specs.declared.message.Message.{Message}
use Rattle.rpc_msg.specs.declared.message.Message.TheVariants as message
use Rattle.rpc_msg.specs.declared.message.PlainMessage.TheVariants as plain
use Rattle.rpc_machine.specs.declared.entries.Embargo.{Embargo}
use Rattle.rpc_machine.specs.World.{World, core, inbox}
use Rattle.laws_nodes.specs.Embargoes.{back, here, is_back, is_out, out}
use Rattle.laws_messages.specs.Loopbacks.{OneIsAbout}
use Rattle.laws_routes.specs.Premises.{EachLoop, IsLastLoop, LoopOf}
use Rattle.laws_routes.proofs.MidwaySwept.{first}
use Rattle.laws_scenes.specs.Meeting.{LoopsMeet, OfBoth}
use Rattle.laws_scenes.proofs.Exports.{second}

module _ (P : ℕ → Type 0) where
  -- That many of no embargo that is not there are on the way.
  none_left : (k : ℕ) (rest : ℕ) → P k ⊎ (cond (nat_eq k k) (suc rest) rest ≡ 0) → P k
  none_left k rest (inl p) = p
  none_left k rest (inr e) = let bad : suc rest ≡ 0 = ap (λ (b : Bool). cond b (suc rest) rest) (sym (itself k)) ∙ e in absurd (omega (arith, bad))

  behind : (b : Bool) (rest : ℕ) → cond b (suc rest) rest ≡ 0 → rest ≡ 0
  behind true rest e = absurd (omega (arith, e))
  behind false rest e = e

  later : {A : Type 0} (b : Bool) (rest : ℕ) → A ⊎ (cond b (suc rest) rest ≡ 0) → A ⊎ (rest ≡ 0)
  later b rest (inl a) = inl a
  later b rest (inr e) = inr (behind b rest e)

  sent_there : (ms : List Message) → ((k : ℕ) → P k ⊎ (out k ms ≡ 0)) → EachLoop P (λ e. Unit {0}) ms
  sent_there [] f = tt
  sent_there (message.Plain (plain.Abort exception) ∷ ms) f = sent_there ms f
  sent_there (message.Plain (plain.Bootstrap q) ∷ ms) f = sent_there ms f
  sent_there (message.Plain (plain.Call c) ∷ ms) f = sent_there ms f
  sent_there (message.Plain (plain.Return r) ∷ ms) f = sent_there ms f
  sent_there (message.Plain (plain.Finish x) ∷ ms) f = sent_there ms f
  sent_there (message.Plain (plain.Resolve r) ∷ ms) f = sent_there ms f
  sent_there (message.Plain (plain.Release r) ∷ ms) f = sent_there ms f
  sent_there (message.Plain (plain.Other n) ∷ ms) f = sent_there ms f
  sent_there (message.Unimplemented m ∷ ms) f = sent_there ms f
  sent_there (message.Plain (plain.Disembargo x) ∷ ms) f = by (sent_there ms) x.context f
    where
      by : (((k : ℕ) → P k ⊎ (out k ms ≡ 0)) → EachLoop P (λ e. Unit {0}) ms) → (c : DisembargoContext) → ((k : ℕ) → P k ⊎ (cond (is_out k c) (suc (out k ms)) (out k ms) ≡ 0)) → LoopOf P (λ e. Unit {0}) c × EachLoop P (λ e. Unit {0}) ms
      by rest (SenderLoopback e) f = (none_left e.0 (out e.0 ms) (f e.0), rest (λ k. later (nat_eq k e.0) (out k ms) (f k)))
      by rest (ReceiverLoopback e) f = (tt, rest f)

  back_there : (ms : List Message) → ((k : ℕ) → P k ⊎ (back k ms ≡ 0)) → EachLoop (λ e. Unit {0}) P ms
  back_there [] f = tt
  back_there (message.Plain (plain.Abort exception) ∷ ms) f = back_there ms f
  back_there (message.Plain (plain.Bootstrap q) ∷ ms) f = back_there ms f
  back_there (message.Plain (plain.Call c) ∷ ms) f = back_there ms f
  back_there (message.Plain (plain.Return r) ∷ ms) f = back_there ms f
  back_there (message.Plain (plain.Finish x) ∷ ms) f = back_there ms f
  back_there (message.Plain (plain.Resolve r) ∷ ms) f = back_there ms f
  back_there (message.Plain (plain.Release r) ∷ ms) f = back_there ms f
  back_there (message.Plain (plain.Other n) ∷ ms) f = back_there ms f
  back_there (message.Unimplemented m ∷ ms) f = back_there ms f
  back_there (message.Plain (plain.Disembargo x) ∷ ms) f = by (back_there ms) x.context f
    where
      by : (((k : ℕ) → P k ⊎ (back k ms ≡ 0)) → EachLoop (λ e. Unit {0}) P ms) → (c : DisembargoContext) → ((k : ℕ) → P k ⊎ (cond (is_back k c) (suc (back k ms)) (back k ms) ≡ 0)) → LoopOf (λ e. Unit {0}) P c × EachLoop (λ e. Unit {0}) P ms
      by rest (ReceiverLoopback e) f = (none_left e.0 (back e.0 ms) (f e.0), rest (λ k. later (nat_eq k e.0) (back k ms) (f k)))
      by rest (SenderLoopback e) f = (tt, rest f)

-- None is about of an embargo that is not there.
about : (o : Option Embargo) (n m : ℕ) → here o ≡ n + m → IsSome o ⊎ ((n ≡ 0) × (m ≡ 0))
about None n m e = inr (omega (arith, e), omega (arith, e))
about (Some b) n m e = inl refl

pub in_world : (w : World) → OneIsAbout w → OfBoth LoopsMeet w
in_world w h v =
    let s = core w v in
    let to_other = inbox w (other_vat v) in
    let to_v = inbox w v in
    let all : (e : ℕ) → IsSome (map.get s.embargoes e) ⊎ ((out e to_other ≡ 0) × (back e to_v ≡ 0)) = λ e. about (map.get s.embargoes e) (out e to_other) (back e to_v) (h.there v e) in
    record { sent = sent_there (λ e. IsSome (map.get s.embargoes e)) to_other (λ e. first (all e)); echoed = back_there (λ e. IsSome (map.get s.embargoes e)) to_v (λ e. second (all e)) }

-- ---- While one comes back, no other of its embargo is about

module _ (e : ℕ) where
  other_or_none : (f : ℕ → ℕ) → f e ≡ 0 → (k : ℕ) → (nat_eq k e ≡ false) ⊎ (f k ≡ 0)
  other_or_none f h k = by (nat_eq k e) refl
    where
      by : (b : Bool) → nat_eq k e ≡ b → (nat_eq k e ≡ false) ⊎ (f k ≡ 0)
      by false g = inl g
      by true g = inr (ap f (equal k e g) ∙ h)

  pub last_loop : (ms ns : List Message) → out e ms ≡ 0 → back e ns ≡ 0 → IsLastLoop e ms ns
  last_loop ms ns h g = record { sent = sent_there (λ k. nat_eq k e ≡ false) ms (other_or_none (λ k. out k ms) h); echoed = back_there (λ k. nat_eq k e ≡ false) ns (other_or_none (λ k. back k ns) g) }

pub last_of : (w : World) → OneIsAbout w → (v : Vat) (t : Target) (x : EmbargoId) (rest : List Message) → inbox w v ≡ message.Plain (plain.Disembargo (record { target = t; context = ReceiverLoopback x })) ∷ rest
    → IsLastLoop x.0 (inbox w (other_vat v)) rest
last_of w h v t x rest e =
    let m = message.Plain (plain.Disembargo (record { target = t; context = ReceiverLoopback x })) in
    let one : out x.0 (inbox w (other_vat v)) + back x.0 (m ∷ rest) ≤ 1 = subst (λ (ms : List Message). out x.0 (inbox w (other_vat v)) + back x.0 ms ≤ 1) e (h.one v x.0) in
    let two : out x.0 (inbox w (other_vat v)) + suc (back x.0 rest) ≤ 1 = subst (λ (b : Bool). out x.0 (inbox w (other_vat v)) + cond b (suc (back x.0 rest)) (back x.0 rest) ≤ 1) (itself x.0) one in
    last_loop x.0 (inbox w (other_vat v)) rest (omega (arith, two)) (omega (arith, two))
