-- Each vat keeps its bootstrap object, also as it goes down.
use Rattle.std.proofs.Common.{◌≡◌, ℕ, Bool, true, false, Option, None, Some, Result, [], ◌∷◌, List, refl, sym, ap, subst, ◌∙◌}
use Rattle.rpc_msg.specs.declared.ids.Vat.{Vat}
use Rattle.rpc_msg.specs.declared.ids.Vat.TheVariants.{A, B}
use Rattle.rpc_msg.specs.declared.ids.ObjectId.{ObjectId}
use Rattle.rpc_msg.specs.declared.message.Message.{Message}
use Rattle.rpc_machine.specs.declared.command.Command.{Command}
use Rattle.rpc_machine.specs.declared.command.Effects.{Effects}
use Rattle.rpc_machine.specs.declared.command.Granted.{Granted}
use Rattle.rpc_machine.specs.declared.command.Refusal.{Refusal}
use Rattle.rpc_machine.specs.declared.event.Event.{Event}
use Rattle.rpc_machine.specs.declared.event.Event.TheVariants as event
use Rattle.rpc_machine.specs.State.{State}
use Rattle.rpc_machine.specs.Down.{ShutsFrom}
use Rattle.rpc_machine.specs.Steps.{Obeys, Refuses, LacksMemory, GoesDown, Shuts, IsDone, Receives, WasDown, FaultsBy, LacksRoom, IsHandled}
use Rattle.rpc_machine.specs.World.{World, StepAnswer, Answered, Handled, Empty, CommandsAt, Happening, HappensBy, ReceivesAt, Run, Tells, after, core, inbox, new_world, overflown, put_inbox}
use Rattle.laws_meanings.proofs.Hosting.{commands, messages}
use Rattle.laws_sound.specs.Promised.{BootstrapsStay, EventsLeaveBootstraps, history_of}

-- ---- One vat

abbrev Has : Option ObjectId → State → Type 0
Has b s = s.bootstrap ≡ b

overflown_has : (b : Option ObjectId) (s : State) (o : Option ℕ) → Has b s → Has b (overflown s o)
overflown_has b s None i = i
overflown_has b s (Some n) i = i

told_has : (b : Option ObjectId) (effects told : Effects) (s new : State) (room : Bool) → Tells effects s room told new → Has b s → Has b new
told_has b effects told s new true t i = subst (Has b) (sym t.1) i
told_has b effects told s new false t i = subst (Has b) (sym t.1) (overflown_has b s s.down i)

shut_has : (b : Option ObjectId) (s new : State) (n : ℕ) (o : Option ℕ) (effects : Effects) → ShutsFrom s n o effects new → Has b s → Has b new
shut_has b s new n None effects f i = subst (Has b) (sym f.new_is) i
shut_has b s new n (Some k) effects f i = subst (Has b) (sym f.new_is) i

obeyed_has : (b : Option ObjectId) (s new : State) (c : Command) (answer : Result Granted Refusal) (effects : Effects) → Obeys s c answer effects new → Has b s → Has b new
obeyed_has b s new c answer effects (Refuses r e f g) i = subst (Has b) (sym g.new_is) i
obeyed_has b s new c answer effects (LacksMemory e f g k) i = subst (Has b) (sym k.new_is) i
obeyed_has b s new c answer effects (GoesDown e f g k) i = subst (Has b) (sym k.new_is) i
obeyed_has b s new c answer effects (Shuts n e f g) i = shut_has b s new n s.down effects g i
obeyed_has b s new c answer effects (IsDone given e f d g) i = commands b s c given effects new i d

received_has : (b : Option ObjectId) (s new : State) (m : Message) (effects : Effects) → Receives s m effects new → Has b s → Has b new
received_has b s new m effects (WasDown e f) i = subst (Has b) (sym f.new_is) i
received_has b s new m effects (FaultsBy n e f g k) i = subst (Has b) (sym k) i
received_has b s new m effects (LacksRoom e f g) i = subst (Has b) (sym g.new_is) i
received_has b s new m effects (IsHandled e f d g) i = messages b s m effects new f i d

-- ---- Two vats

module _ (a b : Option ObjectId) where
  abbrev Both : World → Type 0
  Both w = Has a w.a.core × Has b w.b.core

  abbrev own : Vat → Option ObjectId
  own A = a
  own B = b

  put : (w : World) (v : Vat) (effects : Effects) (s : State) → Both w → (Has (own v) (core w v) → Has (own v) s) → Both (after w v effects s)
  put w A effects s k f = (f k.0, k.1)
  put w B effects s k f = (k.0, f k.1)

  taken : (w : World) (v : Vat) (ms : List Message) → Both w → Both (put_inbox w v ms)
  taken w A ms k = k
  taken w B ms k = k

  commanded : (w new : World) (v : Vat) (c : Command) (o : Option ℕ) (answer : StepAnswer) (room : Bool) → CommandsAt w v c o answer room new → Both w → Both new
  commanded w new v c None (Answered answer told) room h k =
      subst Both (sym h.2) (put w v told h.0 k (λ i. let t = h.1 in told_has (own v) t.1 told t.2 h.0 room t.5 (obeyed_has (own v) (core w v) t.2 c t.0 t.1 t.3 i)))
  commanded w new v c None (Handled told) room h k = absurd h
  commanded w new v c None Empty room h k = absurd h
  commanded w new v c (Some n) (Answered answer told) room h k = subst Both (sym h.1) k
  commanded w new v c (Some n) (Handled told) room h k = absurd h
  commanded w new v c (Some n) Empty room h k = absurd h

  up : (w new : World) (v : Vat) (m : Message) (ms : List Message) (answer : StepAnswer) (room : Bool) → ReceivesAt w v (m ∷ ms) None answer room new → Both w → Both new
  up w new v m ms (Answered answer told) room h k = absurd h
  up w new v m ms (Handled told) room h k =
      let mid = put_inbox w v ms in
      subst Both (sym h.2) (put mid v told h.0 (taken w v ms k) (λ i. let t = h.1 in told_has (own v) t.0 told t.1 h.0 room t.3 (received_has (own v) (core mid v) t.1 m t.0 t.2 i)))
  up w new v m ms Empty room h k = absurd h

  received : (w new : World) (v : Vat) (ms : List Message) (o : Option ℕ) (answer : StepAnswer) (room : Bool) → ReceivesAt w v ms o answer room new → Both w → Both new
  received w new v [] o answer room h k = subst Both (sym h.1) k
  received w new v (m ∷ ms) (Some n) answer room h k = subst Both (sym h.1) k
  received w new v (m ∷ ms) None answer room h k = up w new v m ms answer room h k

  happened : (w new : World) (e : Event) (answer : StepAnswer) (room : Bool) → HappensBy w e answer room new → Both w → Both new
  happened w new (event.Command v c) answer room h k = commanded w new v c (core w v).down answer room h k
  happened w new (event.Deliver v) answer room h k = received w new v (inbox w v) (core w v).down answer room h k

  ran : (w new : World) (xs : List Happening) → Run w xs new → Both w → Both new
  ran w new [] h k = subst Both (sym h) k
  ran w new (x ∷ xs) h k = ran h.0 new xs h.2 (happened w h.0 x.event x.answer x.had_room h.1 k)

pub bootstraps_stay : BootstrapsStay
bootstraps_stay h w run =
    let k = ran run.root_a run.root_b (new_world run.root_a run.root_b) w run.happened run.ran (refl, refl) in
    rw k.0 (rw k.1 refl)

pub events_leave : EventsLeaveBootstraps
events_leave w x new h v = by v (happened w.a.core.bootstrap w.b.core.bootstrap w new x.event x.answer x.had_room h (refl, refl))
  where
    by : (v : Vat) → Both w.a.core.bootstrap w.b.core.bootstrap new → (core new v).bootstrap ≡ (core w v).bootstrap
    by A k = k.0
    by B k = k.1
