-- Two vats as one of them sees them, and the events of that one.
use Rattle.std.proofs.Common.{◌≡◌, ℕ, true, List, [], ◌∷◌, ◌++◌, Option, None, Some, Result, Ok, refl, sym, subst}
use Rattle.rpc_msg.specs.declared.ids.ObjectId.{ObjectId}
use Rattle.rpc_msg.specs.declared.ids.Vat.{Vat}
use Rattle.rpc_msg.specs.declared.ids.Vat.TheVariants.{A, B}
use Rattle.rpc_msg.specs.declared.message.Message.{Message}
use Rattle.rpc_machine.specs.declared.command.Command.{Command}
use Rattle.rpc_machine.specs.declared.command.Command.TheVariants as command
use Rattle.rpc_machine.specs.declared.command.Granted.{Granted}
use Rattle.rpc_machine.specs.declared.command.Granted.TheVariants as granted
use Rattle.rpc_machine.specs.declared.command.Refusal.{Refusal}
use Rattle.rpc_machine.specs.declared.command.Effects.{Effects}
use Rattle.rpc_machine.specs.declared.event.Event.TheVariants as event
use Rattle.rpc_machine.specs.State.{State}
use Rattle.rpc_machine.specs.Down.{ShutsFrom}
use Rattle.rpc_machine.specs.Steps.{Obeys, Receives}
use Rattle.rpc_machine.specs.Steps.Obeys.{Shuts}
use Rattle.rpc_machine.specs.World.{World, Answered, Handled, Happening, CommandsAt}
use Rattle.laws_wired.specs.Wires.{IsHeard, HearsAt, WiredBy, WiredRun, named_world}

-- The state of a vat, that of the other, and the messages on their way to each.
pub record View : Type 0 where
  pub mine : State
  pub theirs : State
  pub to_me : List Message
  pub to_them : List Message

abbrev pub world_of : Vat → View → World
world_of A w = record { a = record { core = w.mine; inbox = w.to_me }; b = record { core = w.theirs; inbox = w.to_them } }
world_of B w = record { a = record { core = w.theirs; inbox = w.to_them }; b = record { core = w.mine; inbox = w.to_me } }

abbrev pub IsEvent : World → Happening → World → Type 0
IsEvent w x new = WiredBy w x.event x.answer x.had_room new

abbrev pub commanded : Vat → Command → Result Granted Refusal → Effects → Happening
commanded v c answer told = record { event = event.Command v c; answer = Answered answer told; had_room = true }

abbrev pub delivered : Vat → Effects → Happening
delivered v told = record { event = event.Deliver v; answer = Handled told; had_room = true }

abbrev pub shut_with : Vat → ℕ → Effects → Happening
shut_with v n told = commanded v (command.Shut n) (Ok granted.Done) told

abbrev pub stepped_view : View → Effects → State → View
stepped_view w told s = record w { mine = s; to_them = w.to_them ++ told.sends }

pub commands : (v : Vat) (w : View) (c : Command) (answer : Result Granted Refusal) (told : Effects) (s : State) → w.mine.down ≡ None
    → Obeys w.mine c answer told s → IsEvent (world_of v w) (commanded v c answer told) (world_of v (stepped_view w told s))
commands A w c answer told s up h =
    subst (λ (o : Option ℕ). CommandsAt (world_of A w) A c o (Answered answer told) true (world_of A (stepped_view w told s))) (sym up)
    (s, (answer, told, s, h, refl, (refl, refl)), refl)
commands B w c answer told s up h =
    subst (λ (o : Option ℕ). CommandsAt (world_of B w) B c o (Answered answer told) true (world_of B (stepped_view w told s))) (sym up)
    (s, (answer, told, s, h, refl, (refl, refl)), refl)

-- At a vat that is down.
pub commands_down : (v : Vat) (w : View) (c : Command) (answer : Result Granted Refusal) (told : Effects) (k : ℕ) → w.mine.down ≡ Some k
    → Obeys w.mine c answer told w.mine → IsEvent (world_of v w) (commanded v c answer told) (world_of v w)
commands_down A w c answer told k down h = subst (λ (o : Option ℕ). CommandsAt (world_of A w) A c o (Answered answer told) true (world_of A w)) (sym down) (h, refl)
commands_down B w c answer told k down h = subst (λ (o : Option ℕ). CommandsAt (world_of B w) B c o (Answered answer told) true (world_of B w)) (sym down) (h, refl)

pub shuts : (v : Vat) (w : View) (n : ℕ) (told : Effects) (s : State) → w.mine.down ≡ None → ShutsFrom w.mine n w.mine.down told s
    → IsEvent (world_of v w) (shut_with v n told) (world_of v (stepped_view w told s))
shuts v w n told s up h = commands v w (command.Shut n) (Ok granted.Done) told s up (Shuts n refl refl h)

pub hears : (v : Vat) (w : View) (m x : Message) (ms : List Message) (told : Effects) (s : State) → w.mine.down ≡ None → w.to_me ≡ m ∷ ms → IsHeard m x
    → Receives w.mine x told s → IsEvent (world_of v w) (delivered v told) (world_of v (record (stepped_view w told s) { to_me = ms }))
hears A w m x ms told s up there is h =
    subst (λ (o : Option ℕ). HearsAt (world_of A w) A w.to_me o (Handled told) true (world_of A (record (stepped_view w told s) { to_me = ms }))) (sym up)
    (subst (λ (l : List Message). HearsAt (world_of A w) A l None (Handled told) true (world_of A (record (stepped_view w told s) { to_me = ms }))) (sym there)
    (x, is, (s, (told, s, h, (refl, refl)), refl)))
hears B w m x ms told s up there is h =
    subst (λ (o : Option ℕ). HearsAt (world_of B w) B w.to_me o (Handled told) true (world_of B (record (stepped_view w told s) { to_me = ms }))) (sym up)
    (subst (λ (l : List Message). HearsAt (world_of B w) B l None (Handled told) true (world_of B (record (stepped_view w told s) { to_me = ms }))) (sym there)
    (x, is, (s, (told, s, h, (refl, refl)), refl)))

pub runs_on : (xs ys : List Happening) (w mid new : World) → WiredRun w xs mid → WiredRun mid ys new → WiredRun w (xs ++ ys) new
runs_on [] ys w mid new h k = subst (λ (x : World). WiredRun x ys new) h k
runs_on (x ∷ xs) ys w mid new h k = (h.0, h.1, runs_on xs ys h.0 mid new h.2 k)

-- A run of two new vats leads to the world.
abbrev pub Reached : (Vat → Vat) → Option ObjectId → Option ObjectId → World → Type 0
Reached letters root_a root_b w = (xs : List Happening) × WiredRun (named_world letters root_a root_b) xs w

pub reached_on : (letters : Vat → Vat) (root_a root_b : Option ObjectId) (w new : World) (ys : List Happening) → Reached letters root_a root_b w → WiredRun w ys new → Reached letters root_a root_b new
reached_on letters root_a root_b w new ys (xs, ran) more = (xs ++ ys, runs_on xs ys (named_world letters root_a root_b) w new ran more)
