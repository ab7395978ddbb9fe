-- What steps of either vat keep holds in each world to which they lead.
use Rattle.std.proofs.Common.{◌≡◌, List, [], ◌∷◌, ◌++◌, Option, None, refl, sym, ap, subst, ◌∙◌}
use Rattle.rpc_msg.specs.declared.ids.Vat.{Vat}
use Rattle.rpc_msg.specs.declared.ids.Vat.TheVariants.{A, B}
use Rattle.rpc_msg.specs.declared.ids.ObjectId.{ObjectId}
use Rattle.rpc_msg.specs.declared.message.Message.{Message}
use Rattle.rpc_msg.specs.declared.message.Message.TheVariants as message
use Rattle.rpc_machine.specs.declared.command.Command.{Command}
use Rattle.rpc_machine.specs.declared.command.Granted.{Granted}
use Rattle.rpc_machine.specs.declared.command.Effects.{Effects}
use Rattle.rpc_machine.specs.State.{State}
use Rattle.rpc_machine.specs.Refusals.{refused}
use Rattle.rpc_machine.specs.Faults.{fault_of}
use Rattle.rpc_machine.specs.Steps.{Does, Handles}
use Rattle.rpc_machine.specs.World.{World, new_world, core, inbox, put_inbox, after}
use Rattle.laws_acts.specs.Sent.{Noted, messages}
use Rattle.laws_runs.specs.Between.{IsSteady, Commands, Receives, Steady, Stays, OneMore, HoldsIn, StillHolds, IsKept}

pub messages-append : (xs ys : List Noted) → messages (xs ++ ys) ≡ messages xs ++ messages ys
messages-append [] ys = refl
messages-append (x ∷ xs) ys = ap (λ ms. message.Plain x.message ∷ ms) (messages-append xs ys)

behind : (ms xs : List Message) (to sent : List Noted) → ms ≡ messages to → xs ≡ messages sent → ms ++ xs ≡ messages (to ++ sent)
behind ms xs to sent e f = ap (λ ys. ys ++ xs) e ∙ ap (λ ys. messages to ++ ys) f ∙ sym (messages-append to sent)

module _ {R : State → List Noted → State → List Noted → Type 0} (r : IsKept R) where
  -- After a step of the vat a, or of b.
  by_a : (w : World) (s : State) (ms : List Message) (x : Effects) (to_a to_b : List Noted) → ms ≡ messages to_a → w.b.inbox ≡ messages to_b → StillHolds R s to_a w.b.core to_b x → HoldsIn R (after (put_inbox w A ms) A x s)
  by_a w s ms x to_a to_b e f h = record { to_a = to_a; to_b = to_b ++ h.0; is_a = e; is_b = behind w.b.inbox x.sends to_b h.0 f h.1; holds = h.2 }

  by_b : (w : World) (s : State) (ms : List Message) (x : Effects) (to_a to_b : List Noted) → w.a.inbox ≡ messages to_a → ms ≡ messages to_b → StillHolds R s to_b w.a.core to_a x → HoldsIn R (after (put_inbox w B ms) B x s)
  by_b w s ms x to_a to_b e f h = record { to_a = to_a ++ h.0; to_b = to_b; is_a = behind w.a.inbox x.sends to_a h.0 e h.1; is_b = f; holds = r.turned s w.a.core to_b (to_a ++ h.0) h.2 }

  commanded : (w : World) (v : Vat) (c : Command) (g : Granted) (x : Effects) (s : State) → HoldsIn R w → refused (core w v) c ≡ None → Does (core w v) c g x s → HoldsIn R (after w v x s)
  commanded w A c g x s k f h = by_a w s w.a.inbox x k.to_a k.to_b k.is_a k.is_b (r.commands w.a.core w.b.core s k.to_a k.to_b c g x k.holds f h)
  commanded w B c g x s k f h = by_b w s w.b.inbox x k.to_a k.to_b k.is_a k.is_b (r.commands w.b.core w.a.core s k.to_b k.to_a c g x (r.turned w.a.core w.b.core k.to_a k.to_b k.holds) f h)

  -- The vat s takes its oldest message.
  takes : (s t new : State) (to_s to_t : List Noted) (m : Message) (ms : List Message) (x : Effects) → R s to_s t to_t → m ∷ ms ≡ messages to_s → fault_of s m ≡ None → Handles s m x new → (rest : List Noted) × (ms ≡ messages rest) × StillHolds R new rest t to_t x
  takes s t new [] to_t m ms x k i f h = absurd (let bad : m ∷ ms ≡ [] = i in cc)
  takes s t new (n ∷ ns) to_t m ms x k i f h =
      let first : m ≡ message.Plain n.message = cc in
      (ns, (let rest : ms ≡ messages ns = cc in rest), r.receives s t new n ns to_t x k (subst (λ (y : Message). fault_of s y ≡ None) first f) (subst (λ (y : Message). Handles s y x new) first h))

  took : (w : World) (v : Vat) (m : Message) (ms : List Message) (x : Effects) (s : State) → HoldsIn R w → inbox w v ≡ m ∷ ms → fault_of (core w v) m ≡ None → Handles (core w v) m x s → HoldsIn R (after (put_inbox w v ms) v x s)
  took w A m ms x s k i f h =
      let t = takes w.a.core w.b.core s k.to_a k.to_b m ms x k.holds (sym i ∙ k.is_a) f h in
      by_a w s ms x t.0 k.to_b t.1 k.is_b t.2
  took w B m ms x s k i f h =
      let t = takes w.b.core w.a.core s k.to_b k.to_a m ms x (r.turned w.a.core w.b.core k.to_a k.to_b k.holds) (sym i ∙ k.is_b) f h in
      by_b w s ms x k.to_a t.0 k.is_a t.1 t.2

  stepped : (w new : World) → HoldsIn R w → IsSteady w new → HoldsIn R new
  stepped w new k (Commands v c g x s f h e) = subst (λ (y : World). HoldsIn R y) (sym e) (commanded w v c g x s k f h)
  stepped w new k (Receives v m ms x s i f h e) = subst (λ (y : World). HoldsIn R y) (sym e) (took w v m ms x s k i f h)

  runs : (end w : World) → HoldsIn R w → Steady end w → HoldsIn R end
  runs end w k Stays = k
  runs end w k (OneMore {mid = mid} h rest) = runs end mid (stepped w mid k h) rest

  pub in_steady_worlds : (root_a root_b : Option ObjectId) (w : World) → Steady w (new_world root_a root_b) → HoldsIn R w
  in_steady_worlds root_a root_b w h = runs w (new_world root_a root_b) (record { to_a = []; to_b = []; is_a = refl; is_b = refl; holds = r.starts root_a root_b }) h
