-- What a point between two vats sees of a run of theirs (docs/looking.md): each message passes it once, somewhere between its
-- sending and its receipt, and those of one sender in their order.
use Rattle.std.specs.Prelude.{◌≡◌, Bool, true, false, Option, List, [], ◌∷◌, ◌++◌}
use Rattle.rpc_msg.specs.declared.ids.Vat.{Vat}
use Rattle.rpc_msg.specs.declared.ids.Vat.TheVariants.{A, B}
use Rattle.rpc_msg.specs.declared.ids.ObjectId.{ObjectId}
use Rattle.rpc_msg.specs.declared.message.Message.{Message}
use Rattle.rpc_journal.specs.History.{same_vat}
use Rattle.rpc_machine.specs.declared.event.Event.{Event}
use Rattle.rpc_machine.specs.declared.event.Event.TheVariants as event
use Rattle.rpc_machine.specs.World.{World, new_world, inbox, Happening, Happens, StepAnswer, Handled}
use Rattle.look_books.specs.declared.books.Moment.{Moment}

-- A message that passed: which vat sent it, when it passed and as which one, and what it is.
pub record Line : Type 0 where
  pub from : Vat
  pub moment : Moment
  pub message : Message

-- Two vats with a point on their links: of what is on the way to each the messages that passed the point, the oldest first, and all
-- that passed it so far, in order. Those have whatever numbers and times.
pub record View : Type 0 where
  pub world : World
  pub to_a : List Message
  pub to_b : List Message
  pub log : List Line

abbrev pub begins : Option ObjectId → Option ObjectId → View
begins root_a root_b = record { world = new_world root_a root_b; to_a = []; to_b = []; log = [] }

-- what passed on its way to a vat, which has not received it
abbrev pub passed : View → Vat → List Message
passed x A = x.to_a
passed x B = x.to_b

-- The message passes, on its way to that vat.
abbrev pub passes : View → Vat → Moment → Message → View
passes x A t m = record x { to_a = x.to_a ++ m ∷ []; log = x.log ++ record { from = B; moment = t; message = m } ∷ [] }
passes x B t m = record x { to_b = x.to_b ++ m ∷ []; log = x.log ++ record { from = A; moment = t; message = m } ∷ [] }

-- In that event the vat receives its oldest message.
abbrev pub receives : Vat → Event → StepAnswer → Bool
receives v (event.Deliver u) (Handled told) = same_vat v u
receives v e answer = false

-- What is received passed before.
abbrev pub Takes : Bool → List Message → List Message → Type 0
Takes true before after = (m : Message) × (before ≡ m ∷ after)
Takes false before after = after ≡ before

-- An event of the two vats; or the oldest message on its way to a vat that has not passed the point does so.
pub data Goes (x new : View) : Type 0 where
  Happened : (h : Happening) → Happens x.world h new.world → Takes (receives A h.event h.answer) x.to_a new.to_a → Takes (receives B h.event h.answer) x.to_b new.to_b → new.log ≡ x.log → Goes x new
  Passed : (v : Vat) (t : Moment) (m : Message) (rest : List Message) → inbox x.world v ≡ passed x v ++ m ∷ rest → new ≡ passes x v t m → Goes x new

-- One after the other.
pub data Sees (last : View) : View → Type 0 where
  NoMore : Sees last last
  Then : {x mid : View} → Goes x mid → Sees last mid → Sees last x

-- Of a run of two new vats with these bootstrap objects.
abbrev pub IsSeen : Option ObjectId → Option ObjectId → View → Type 0
IsSeen root_a root_b x = Sees x (begins root_a root_b)
