-- An embargo and its Disembargo, from step to step of two vats.
use Rattle.std.proofs.Common.{◌≡◌, ◌≤◌, ℕ, suc, ◌+◌, Bool, true, false, cond, not, Option, None, Some, is_some, List, [], ◌∷◌, ◌++◌, refl, sym, ap, subst, ◌∙◌, arith}
use Rattle.std.specs.FinMap as map
use Rattle.std.specs.Ordering.{nat_cmp}
use Rattle.finite_maps.proofs.Tested.{itself}
use Rattle.rpc_msg.specs.Vats.{other_vat}
use Rattle.rpc_msg.specs.declared.ids.Vat.{Vat}
use Rattle.rpc_msg.specs.declared.ids.Vat.TheVariants.{A, B}
use Rattle.rpc_msg.specs.declared.ids.ObjectId.{ObjectId}
use Rattle.rpc_msg.specs.declared.message.DisembargoContext.TheVariants.{ReceiverLoopback}
use Rattle.rpc_msg.specs.declared.message.PlainMessage.TheVariants as plain
use Rattle.rpc_msg.specs.declared.message.Message.{Message}
use Rattle.rpc_msg.specs.declared.message.Message.TheVariants as message
use Rattle.rpc_journal.specs.History.{if_so}
use Rattle.rpc_machine.specs.declared.command.Command.{Command}
use Rattle.rpc_machine.specs.declared.command.Granted.{Granted}
use Rattle.rpc_machine.specs.declared.command.Effects.{Effects}
use Rattle.rpc_machine.specs.declared.command.Level.{Level}
use Rattle.rpc_machine.specs.declared.command.Level.TheVariants.{One}
use Rattle.rpc_machine.specs.declared.entries.Embargo.{Embargo}
use Rattle.rpc_machine.specs.State.{State, start}
use Rattle.rpc_machine.specs.Lists.{how_many}
use Rattle.rpc_machine.specs.Numbers.{unknown_embargo}
use Rattle.rpc_machine.specs.Refusals.{refused}
use Rattle.rpc_machine.specs.Faults.{fault_of, is_foreign, plain_fault, unless_foreign}
use Rattle.rpc_machine.specs.Steps.{Does, Handles}
use Rattle.rpc_machine.specs.World.{World, core, inbox}
use Rattle.laws_acts.specs.Sent.{Noted, messages}
use Rattle.laws_nodes.specs.Ones.{one_if}
use Rattle.laws_nodes.specs.Embargoes.{here, out, back, goes_out, comes_back, Loopbacks}
use Rattle.laws_runs.specs.Between.{HoldsIn, StillHolds, IsKept}
use Rattle.laws_runs.specs.Worlds.{Stand}
use Rattle.laws_runs.proofs.Kept.{messages-append}
use Rattle.laws_messages.specs.Loopbacks.{AreAbout, EmbargoesStand, OneIsAbout, about, ComesBackWell}

-- ---- What is on its way

first_counts : (f : Message → Bool) (m : Message) (ms : List Message) → how_many f (m ∷ ms) ≡ one_if (f m) + how_many f ms
first_counts f m ms = by (f m)
  where
    by : (b : Bool) → cond b (suc (how_many f ms)) (how_many f ms) ≡ one_if b + how_many f ms
    by true = omega arith
    by false = omega arith

how_many-append : (f : Message → Bool) (ms ns : List Message) → how_many f (ms ++ ns) ≡ how_many f ms + how_many f ns
how_many-append f [] ns = omega arith
how_many-append f (m ∷ ms) ns = let a = first_counts f m (ms ++ ns) in let b = first_counts f m ms in let c = how_many-append f ms ns in omega (arith, a, b, c)

-- Behind what was on its way comes what was sent.
behind : (f : Message → Bool) (to sent : List Noted) (xs : List Message) (n : ℕ) → xs ≡ messages sent → how_many f xs ≡ n → how_many f (messages (to ++ sent)) ≡ how_many f (messages to) + n
behind f to sent xs n e h = ap (how_many f) (messages-append to sent) ∙ how_many-append f (messages to) (messages sent) ∙ ap (λ k. how_many f (messages to) + k) (ap (how_many f) (sym e) ∙ h)

-- ---- Two vats

pub turned : (s t : State) (to_s to_t : List Noted) → ((s t : State) (to_s to_t : List Noted) → Stand s to_s t to_t → Stand t to_t s to_s) → EmbargoesStand s to_s t to_t → EmbargoesStand t to_t s to_s
turned s t to_s to_t f k = record { stand = f s t to_s to_t k.stand; of_s = k.of_t; of_t = k.of_s }

none_about : (v : Vat) (b : Option ObjectId) → AreAbout (start v One b) [] []
none_about v b e = subst (λ (o : Option Embargo). here o ≡ 0) (sym (map.get-empty nat_cmp e)) refl

module _ (sessions : IsKept Stand) (law : Loopbacks) where
  commands : (s t new : State) (to_s to_t : List Noted) (c : Command) (g : Granted) (x : Effects) → EmbargoesStand s to_s t to_t → refused s c ≡ None → Does s c g x new → StillHolds EmbargoesStand new to_s t to_t x
  commands s t new to_s to_t c g x k f h =
      let y = sessions.commands s t new to_s to_t c g x k.stand f h in
      let sent = y.0 in
      (sent, y.1, record { stand = y.2; of_s = λ e. of_s sent y.1 e; of_t = λ e. of_t sent y.1 e })
    where
      of_s : (sent : List Noted) → x.sends ≡ messages sent → (e : ℕ) → here (map.get new.embargoes e) ≡ out e (messages (to_t ++ sent)) + back e (messages to_s)
      of_s sent i e =
          let a = (law.commands e s c g x new h).0 in
          let b = k.of_s e in
          let c = behind (goes_out e) to_t sent x.sends (out e x.sends) i refl in
          omega (arith, a, b, c)

      of_t : (sent : List Noted) → x.sends ≡ messages sent → (e : ℕ) → here (map.get t.embargoes e) ≡ out e (messages to_s) + back e (messages (to_t ++ sent))
      of_t sent i e =
          let a = k.of_t e in
          let b = behind (comes_back e) to_t sent x.sends 0 i (law.commands e s c g x new h).1 in
          omega (arith, a, b)

  receives : (s t new : State) (n : Noted) (to_s to_t : List Noted) (x : Effects) → EmbargoesStand s (n ∷ to_s) t to_t → fault_of s (message.Plain n.message) ≡ None → Handles s (message.Plain n.message) x new → StillHolds EmbargoesStand new to_s t to_t x
  receives s t new n to_s to_t x k f h =
      let y = sessions.receives s t new n to_s to_t x k.stand f h in
      let sent = y.0 in
      (sent, y.1, record { stand = y.2; of_s = λ e. of_s sent y.1 e; of_t = λ e. of_t sent y.1 e })
    where
      m : Message
      m = message.Plain n.message

      of_s : (sent : List Noted) → x.sends ≡ messages sent → (e : ℕ) → here (map.get new.embargoes e) ≡ out e (messages (to_t ++ sent)) + back e (messages to_s)
      of_s sent i e =
          let l = law.messages e s m x new k.stand.ready_s.level f h in
          let a = l.0 in
          let b = k.of_s e in
          let c = behind (goes_out e) to_t sent x.sends 0 i l.1 in
          let d = first_counts (comes_back e) m (messages to_s) in
          omega (arith, a, b, c, d)

      of_t : (sent : List Noted) → x.sends ≡ messages sent → (e : ℕ) → here (map.get t.embargoes e) ≡ out e (messages to_s) + back e (messages (to_t ++ sent))
      of_t sent i e =
          let l = law.messages e s m x new k.stand.ready_s.level f h in
          let a = k.of_t e in
          let b = behind (comes_back e) to_t sent x.sends (one_if (goes_out e m)) i l.2 in
          let c = first_counts (goes_out e) m (messages to_s) in
          omega (arith, a, b, c)

  pub are_kept : IsKept EmbargoesStand
  are_kept = record {
    turned = λ s t to_s to_t. turned s t to_s to_t sessions.turned;
    starts = λ a b. record { stand = sessions.starts a b; of_s = none_about A a; of_t = none_about B b };
    commands = commands;
    receives = receives;
  }

-- ---- Worlds

is_one : {X : Type 0} (o : Option X) → here o ≤ 1
is_one None = omega arith
is_one (Some x) = omega arith

there : (w : World) (v : Vat) (e : ℕ) → HoldsIn EmbargoesStand w → here (map.get (core w v).embargoes e) ≡ about w v e
there w A e k = k.holds.of_s e ∙ ap (λ ms. out e ms + back e (messages k.to_a)) (sym k.is_b) ∙ ap (λ ms. out e w.b.inbox + back e ms) (sym k.is_a)
there w B e k = k.holds.of_t e ∙ ap (λ ms. out e ms + back e (messages k.to_b)) (sym k.is_a) ∙ ap (λ ms. out e w.a.inbox + back e ms) (sym k.is_b)

pub one_about : (w : World) → HoldsIn EmbargoesStand w → OneIsAbout w
one_about w k = record { there = λ v e. there w v e k; one = λ v e. subst (λ n. n ≤ 1) (there w v e k) (is_one (map.get (core w v).embargoes e)) }

-- ---- A Disembargo that came back

is_there : {X : Type 0} (o : Option X) (n : ℕ) → here o ≡ suc n → is_some o ≡ true
is_there None n e = absurd (let bad : 0 ≡ suc n = e in omega (arith, bad))
is_there (Some x) n e = refl

-- A new vat of the two is of level 1, and each step leaves it so.
pub levels : (w : World) → HoldsIn Stand w → (v : Vat) → (core w v).level ≡ One
levels w k A = k.holds.ready_s.level
levels w k B = k.holds.ready_t.level

pub comes_well : (w : World) → OneIsAbout w → ((v : Vat) → (core w v).level ≡ One) → ComesBackWell w
comes_well w k one v x t ms i =
    let d = plain.Disembargo (record { target = t; context = ReceiverLoopback x }) in
    let m = message.Plain d in
    let e = x.0 in
    let first : back e (inbox w v) ≡ suc (back e ms) = ap (back e) i ∙ ap (λ b. cond b (suc (back e ms)) (back e ms)) (itself e) in
    let a = k.there v e in
    let some = is_there (map.get (core w v).embargoes e) (out e (inbox w (other_vat v)) + back e ms) (omega (arith, a, first)) in
    ap (λ (l : Level). unless_foreign (is_foreign l d) (plain_fault (core w v) d)) (one v) ∙ ap (λ b. if_so (not b) unknown_embargo) some
