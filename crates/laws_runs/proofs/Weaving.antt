-- A run of the pair machine is a run of two vats, event by event.
use Rattle.std.proofs.Common.{◌≡◌, ℕ, Bool, List, [], ◌∷◌, ◌++◌, Option, None, refl, sym, ap, subst, ◌∙◌}
use Rattle.rpc_msg.specs.declared.ids.Vat.{Vat}
use Rattle.rpc_msg.specs.declared.ids.Vat.TheVariants.{A, B}
use Rattle.rpc_msg.specs.declared.message.Message.{Message}
use Rattle.rpc_msg.specs.Vats.{other_vat}
use Rattle.rpc_msg.specs.declared.ids.ObjectId.{ObjectId}
use Rattle.rpc_journal.specs.Meaning.{History}
use Rattle.rpc_machine.specs.declared.command.Command.{Command}
use Rattle.rpc_machine.specs.declared.command.Level.TheVariants.{One}
use Rattle.rpc_machine.specs.declared.event.Event.TheVariants as event
use Rattle.rpc_machine.specs.State.{State, start}
use Rattle.rpc_machine.specs.World.{World, core, inbox, put_core, put_inbox, after, StepAnswer, Answered, Handled, Empty, Happening, CommandsAt, ReceivesAt, ReceivesUp, HappensBy}
use Rattle.rpc_machine.specs.Journal.{journal}
use Rattle.rpc_machine.specs.Claims.{EveryRun, IsSound, history}
use Rattle.laws_merge.specs.Machine as weave
use Rattle.laws_merge.specs.Machine.{Input, Shut, Receive, Takes}
use Rattle.laws_merge.proofs.Theorem as theorem
use Rattle.laws_runs.specs.Sides.{Note, CommandBy, MessageBy, StepBy, vat_side, Log, event_by, happened, as_world, woven}
use Rattle.laws_runs.specs.Woven.{RunsAreRuns, Logs, end_of, LogsAreRuns, LogsAreSound}

-- The world where the vat has that core, that is left on its way to it, and that is sent.
abbrev moved : World → Vat → List Message → List Message → State → World
moved w v left sends t = put_inbox (put_core (put_inbox w v left) v t) (other_vat v) (inbox w (other_vat v) ++ sends)

commanded : (w : World) (v : Vat) (c : Command) (answer : StepAnswer) (room : Bool) (sends : List Message) (t : State) → (core w v).down ≡ None → CommandBy (core w v) c answer room sends t → HappensBy w (event.Command v c) answer room (moved w v (inbox w v) sends t)
commanded w v c (Answered a told) room sends t e k =
    subst (λ (o : Option ℕ). CommandsAt w v c o (Answered a told) room (moved w v (inbox w v) sends t)) (sym e)
    (t, k.0, ap (λ (ms : List Message). moved w v (inbox w v) ms t) k.1 ∙ here v)
  where
    here : (v : Vat) → moved w v (inbox w v) told.sends t ≡ after w v told t
    here A = refl
    here B = refl
commanded w v c (Handled told) room sends t e k = absurd k
commanded w v c Empty room sends t e k = absurd k

message_at : (w : World) (v : Vat) (m : Message) (ms : List Message) (answer : StepAnswer) (room : Bool) (sends : List Message) (t : State) → MessageBy (core w v) m answer room sends t → ReceivesUp (put_inbox w v ms) v m answer room (moved w v ms sends t)
message_at w v m ms (Handled told) room sends t k = by v k
  where
    by : (v : Vat) → MessageBy (core w v) m (Handled told) room sends t → ReceivesUp (put_inbox w v ms) v m (Handled told) room (moved w v ms sends t)
    by A k = (t, k.0, ap (λ (s : List Message). moved w A ms s t) k.1)
    by B k = (t, k.0, ap (λ (s : List Message). moved w B ms s t) k.1)
message_at w v m ms (Answered a told) room sends t k = absurd k
message_at w v m ms Empty room sends t k = absurd k

received : (w : World) (v : Vat) (m : Message) (ms : List Message) (answer : StepAnswer) (room : Bool) (sends : List Message) (t : State) → (core w v).down ≡ None → inbox w v ≡ m ∷ ms → MessageBy (core w v) m answer room sends t → HappensBy w (event.Deliver v) answer room (moved w v ms sends t)
received w v m ms answer room sends t e i k =
    subst (λ (l : List Message). ReceivesAt w v l (core w v).down answer room (moved w v ms sends t)) (sym i)
    (subst (λ (o : Option ℕ). ReceivesAt w v (m ∷ ms) o answer room (moved w v ms sends t)) (sym e) (message_at w v m ms answer room sends t k))

-- One step of a side.
stepped : (w : World) (v : Vat) (input : Input Command Message) (note : Note) (left sends : List Message) (t : State) → (core w v).down ≡ None → StepBy (core w v) input note sends t → Takes input (inbox w v) left → HappensBy w (event_by v input note) note.answer note.had_room (moved w v left sends t)
stepped w v (weave.Command c) note left sends t e k i = subst (λ (l : List Message). HappensBy w (event.Command v c) note.answer note.had_room (moved w v l sends t)) (sym i) (commanded w v c note.answer note.had_room sends t e k)
stepped w v Shut note left sends t e k i = subst (λ (l : List Message). HappensBy w (event_by v Shut note) note.answer note.had_room (moved w v l sends t)) (sym i) (commanded w v _ note.answer note.had_room sends t e k)
stepped w v (Receive m) note left sends t e k i = received w v m left note.answer note.had_room sends t e i k

same_a : (old new : weave.World vat_side vat_side) (sends : List Message) → new.b ≡ old.b → new.to_b ≡ old.to_b ++ sends → moved (as_world old) A new.to_a sends new.a ≡ as_world new
same_a old new sends e f =
    subst (λ (b : State). moved (as_world old) A new.to_a sends new.a ≡ record { a = record { core = new.a; inbox = new.to_a }; b = record { core = b; inbox = new.to_b } }) (sym e)
    (ap (λ (ms : List Message). as_world (record { a = new.a; b = old.b; to_a = new.to_a; to_b = ms })) (sym f))

same_b : (old new : weave.World vat_side vat_side) (sends : List Message) → new.a ≡ old.a → new.to_a ≡ old.to_a ++ sends → moved (as_world old) B new.to_b sends new.b ≡ as_world new
same_b old new sends e f =
    subst (λ (a : State). moved (as_world old) B new.to_b sends new.b ≡ record { a = record { core = a; inbox = new.to_a }; b = record { core = new.b; inbox = new.to_b } }) (sym e)
    (ap (λ (ms : List Message). as_world (record { a = old.a; b = new.b; to_a = ms; to_b = new.to_b })) (sym f))

happens : (old new : weave.World vat_side vat_side) (e : weave.Event vat_side vat_side) → weave.Happens vat_side vat_side old e new → HappensBy (as_world old) (happened e).event (happened e).answer (happened e).had_room (as_world new)
happens old new (weave.AtA m) k =
    subst (λ (w : World). HappensBy (as_world old) (event_by A m.input m.note) m.note.answer m.note.had_room w) (same_a old new m.sends k.1 k.3)
    (stepped (as_world old) A m.input m.note new.to_a m.sends new.a k.0.0 k.0.1 k.2)
happens old new (weave.AtB m) k =
    subst (λ (w : World). HappensBy (as_world old) (event_by B m.input m.note) m.note.answer m.note.had_room w) (same_b old new m.sends k.1 k.3)
    (stepped (as_world old) B m.input m.note new.to_b m.sends new.b k.0.0 k.0.1 k.2)

pub runs_are_runs : RunsAreRuns
runs_are_runs old new [] k = ap as_world k
runs_are_runs old new (e ∷ es) k = (as_world k.0, happens old k.0 e k.1, runs_are_runs k.0 new es k.2)

pub logs_are_runs : LogsAreRuns
logs_are_runs root_a root_b xs ys logs =
    let h = theorem.logs_interleave vat_side vat_side (start A One root_a) (start B One root_b) xs ys logs.last_a logs.last_b logs.lawful_a logs.lawful_b logs.fit in
    runs_are_runs _ _ _ h.explained.run

-- What holds of every run holds of two logs, with the journal of their merge.
pub what_holds : (P : History → List Happening → World → Type 0) → EveryRun P → (root_a root_b : Option ObjectId) (xs ys : Log) (logs : Logs root_a root_b xs ys) → P (history root_a root_b (journal (woven xs ys))) (woven xs ys) (end_of logs)
what_holds P every root_a root_b xs ys logs = every root_a root_b (woven xs ys) (end_of logs) (logs_are_runs root_a root_b xs ys logs)

pub logs_are_sound : LogsAreSound
logs_are_sound every = what_holds IsSound every
