-- Both vats of a run of two are at states to which a vat comes.
use Rattle.std.proofs.Common.{ℕ, Bool, true, false, List, [], ◌∷◌, Option, None, Some, Result}
use Rattle.laws_acts.specs.rpc_msg.specs.declared.ids.Vat.{Vat}
use Rattle.laws_acts.specs.rpc_msg.specs.declared.ids.Vat.TheVariants.{A, B}
use Rattle.laws_acts.specs.rpc_msg.specs.declared.ids.ObjectId.{ObjectId}
use Rattle.laws_acts.specs.rpc_msg.specs.declared.message.Message.{Message}
use Rattle.laws_acts.specs.rpc_machine.specs.declared.command.Level.TheVariants.{One}
use Rattle.laws_acts.specs.rpc_machine.specs.declared.command.Command.{Command}
use Rattle.laws_acts.specs.rpc_machine.specs.declared.command.Granted.{Granted}
use Rattle.laws_acts.specs.rpc_machine.specs.declared.command.Refusal.{Refusal}
use Rattle.laws_acts.specs.rpc_machine.specs.declared.command.Effects.{Effects}
use Rattle.laws_acts.specs.rpc_machine.specs.declared.event.Event.{Event}
use Rattle.laws_acts.specs.rpc_machine.specs.declared.event.Event.TheVariants as event
use Rattle.laws_acts.specs.rpc_machine.specs.State.{State}
use Rattle.laws_acts.specs.rpc_machine.specs.World.{World, core, inbox, put_inbox, new_world, StepAnswer, Answered, Handled, Empty, Happening, after, overflown, Tells, CommandTold, MessageTold, CommandsUp, CommandsDown, CommandsAt, ReceivesUp, ReceivesAt, HappensBy, Run}
use Rattle.laws_steps.specs.NodesThere.{Stays, Commanded, Received, Fell, IsReached, NodesThereInRuns}
use Rattle.laws_steps.proofs.Reached.{are_there, go_on}

abbrev Both : World → Type 0
Both w = IsReached w.a.core × IsReached w.b.core

at : (w : World) (v : Vat) → Both w → IsReached (core w v)
at w A h = h.0
at w B h = h.1

put_reached : (w : World) (v : Vat) (ms : List Message) → Both w → Both (put_inbox w v ms)
put_reached w A ms h = h
put_reached w B ms h = h

after_reached : (w : World) (v : Vat) (x : Effects) (s : State) → Both w → IsReached s → Both (after w v x s)
after_reached w A x s h k = (k, h.1)
after_reached w B x s h k = (h.0, k)

over : (s : State) (o : Option ℕ) → IsReached s → IsReached (overflown s o)
over s None h = go_on s _ h (Fell 33 Stays)
over s (Some n) h = h

told : (x : Effects) (s : State) (room : Bool) (y : Effects) (t : State) → IsReached s → Tells x s room y t → IsReached t
told x s true y t h k = rw k.1 h
told x s false y t h k = rw k.1 (over s s.down h)

commands : (s : State) (c : Command) (a : Result Granted Refusal) (x : Effects) (room : Bool) (t : State) → IsReached s → CommandTold s c a x room t → IsReached t
commands s c a x room t h k = told k.1 k.2 room x t (go_on s k.2 h (Commanded c k.0 k.1 k.3 Stays)) k.5

messages : (s : State) (m : Message) (x : Effects) (room : Bool) (t : State) → IsReached s → MessageTold s m x room t → IsReached t
messages s m x room t h k = told k.0 k.1 room x t (go_on s k.1 h (Received m k.0 k.2 Stays)) k.3

commanded_up : (w : World) (v : Vat) (c : Command) (answer : StepAnswer) (room : Bool) (new : World) → Both w → CommandsUp w v c answer room new → Both new
commanded_up w v c (Answered answer x) room new h k = rw k.2 (after_reached w v x k.0 h (commands (core w v) c answer x room k.0 (at w v h) k.1))
commanded_up w v c (Handled x) room new h k = absurd k
commanded_up w v c Empty room new h k = absurd k

commanded_down : (w : World) (v : Vat) (c : Command) (answer : StepAnswer) (new : World) → Both w → CommandsDown w v c answer new → Both new
commanded_down w v c (Answered answer told) new h k = rw k.1 h
commanded_down w v c (Handled told) new h k = absurd k
commanded_down w v c Empty new h k = absurd k

commanded : (w : World) (v : Vat) (c : Command) (o : Option ℕ) (answer : StepAnswer) (room : Bool) (new : World) → Both w → CommandsAt w v c o answer room new → Both new
commanded w v c None answer room new h k = commanded_up w v c answer room new h k
commanded w v c (Some n) answer room new h k = commanded_down w v c answer new h k

received_up : (w : World) (v : Vat) (m : Message) (answer : StepAnswer) (room : Bool) (new : World) → Both w → ReceivesUp w v m answer room new → Both new
received_up w v m (Answered answer x) room new h k = absurd k
received_up w v m (Handled x) room new h k = rw k.2 (after_reached w v x k.0 h (messages (core w v) m x room k.0 (at w v h) k.1))
received_up w v m Empty room new h k = absurd k

received : (w : World) (v : Vat) (ms : List Message) (o : Option ℕ) (answer : StepAnswer) (room : Bool) (new : World) → Both w → ReceivesAt w v ms o answer room new → Both new
received w v [] o answer room new h k = rw k.1 h
received w v (m ∷ ms) (Some n) answer room new h k = rw k.1 h
received w v (m ∷ ms) None answer room new h k = received_up (put_inbox w v ms) v m answer room new (put_reached w v ms h) k

happened : (w : World) (e : Event) (answer : StepAnswer) (room : Bool) (new : World) → Both w → HappensBy w e answer room new → Both new
happened w (event.Command v c) answer room new h k = commanded w v c (core w v).down answer room new h k
happened w (event.Deliver v) answer room new h k = received w v (inbox w v) (core w v).down answer room new h k

ran : (w : World) (xs : List Happening) (new : World) → Both w → Run w xs new → Both new
ran w [] new h k = rw k h
ran w (x ∷ xs) new h k = ran k.0 xs new (happened w x.event x.answer x.had_room k.0 h k.1) k.2

begun : (a b : Option ObjectId) → Both (new_world a b)
begun a b = ((A, One, a, Stays), (B, One, b, Stays))

pub in_runs : NodesThereInRuns
in_runs a b xs w k = let h = ran (new_world a b) xs w (begun a b) k in (are_there w.a.core h.0, are_there w.b.core h.1)
