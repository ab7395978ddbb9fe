-- Two vats over two wires (docs/laws/over-wires.md). What differs from a world of `rpc_machine` is what a vat hears: a Call
-- with any stamp, since no stamp goes over a wire, and contents that were laid out anew, with null in the place of some
-- capabilities.
use Rattle.std.specs.Prelude.{◌≡◌, ℕ, Bool, true, false, Option, None, Some, List, [], ◌∷◌, map, Result}
use Rattle.rpc_msg.specs.Payloads.{Contents}
use Rattle.rpc_msg.specs.declared.ids.ObjectId.{ObjectId}
use Rattle.rpc_msg.specs.declared.ids.Stamp.{Stamp}
use Rattle.rpc_msg.specs.declared.ids.QuestionId.{QuestionId}
use Rattle.rpc_msg.specs.declared.ids.Vat.{Vat}
use Rattle.rpc_msg.specs.declared.ids.Vat.TheVariants.{A, B}
use Rattle.rpc_msg.specs.declared.parts.Descriptor.{Descriptor}
use Rattle.rpc_msg.specs.declared.message.Call.{Call}
use Rattle.rpc_msg.specs.declared.message.ReturnBody.TheVariants as body
use Rattle.rpc_msg.specs.declared.message.Message.{Message}
use Rattle.rpc_machine.specs.declared.command.Granted.{Granted}
use Rattle.rpc_machine.specs.declared.command.Refusal.{Refusal}
use Rattle.rpc_machine.specs.declared.command.Level.TheVariants.{One}
use Rattle.rpc_machine.specs.declared.event.Event.{Event}
use Rattle.rpc_machine.specs.declared.event.Event.TheVariants as event
use Rattle.rpc_machine.specs.State.{start}
use Rattle.rpc_machine.specs.World.{Side, World, core, inbox, put_inbox, new_world, StepAnswer, Answered, Handled, Empty, Happening, CommandsAt, ReceivesUp, Run}
use Rattle.laws_wired.specs.Contents.{IsHeardOf}
use Rattle.laws_wired.specs.Pairs.{TwoStates, TwoMessages, TwoEffects, call_saying, return_saying, state_at, message_at, effects_at}

-- ---- over wires

-- What a vat hears of a message that the other vat said: the message; of a Call, with another stamp and with the contents that
-- are heard; of a Return of results, with the contents that are heard.
pub data IsHeard (said heard : Message) : Type 0 where
  AsSaid : heard ≡ said → IsHeard said heard
  OfCall : (c : Call) (stamp : Stamp) (p : Contents) → IsHeardOf c.descriptors c.payload p → said ≡ call_saying c c.stamp c.payload → heard ≡ call_saying c stamp p → IsHeard said heard
  OfResults : (a : QuestionId) (flag : Bool) (ds : List Descriptor) (q p : Contents) → IsHeardOf ds q p
      → said ≡ return_saying a flag (body.Results q ds) → heard ≡ return_saying a flag (body.Results p ds) → IsHeard said heard

-- A vat takes the oldest message on its way to it, as it hears it. One that is down takes none.
abbrev pub HearsAt : World → Vat → List Message → Option ℕ → StepAnswer → Bool → World → Type 0
HearsAt w v [] down answer room new = (answer ≡ Empty) × (new ≡ w)
HearsAt w v (m ∷ ms) (Some n) answer room new = (answer ≡ Empty) × (new ≡ w)
HearsAt w v (m ∷ ms) None answer room new = (x : Message) × IsHeard m x × ReceivesUp (put_inbox w v ms) v x answer room new

-- An event of two vats over wires.
abbrev pub WiredBy : World → Event → StepAnswer → Bool → World → Type 0
WiredBy w (event.Command v c) answer room new = CommandsAt w v c (core w v).down answer room new
WiredBy w (event.Deliver v) answer room new = HearsAt w v (inbox w v) (core w v).down answer room new

-- Two new vats of level 1 with these letters and bootstrap objects, and nothing on its way.
abbrev pub named_world : (Vat → Vat) → Option ObjectId → Option ObjectId → World
named_world letters root_a root_b =
    record { a = record { core = start (letters A) One root_a; inbox = [] }; b = record { core = start (letters B) One root_b; inbox = [] } }

-- A run of two vats over wires.
abbrev pub WiredRun : World → List Happening → World → Type 0
WiredRun w [] new = new ≡ w
WiredRun w (x ∷ xs) new = (mid : World) × WiredBy w x.event x.answer x.had_room mid × WiredRun mid xs new

-- ---- over wires and in one world

-- What a step answers.
pub data TwoAnswers : Type 0 where
  Obeyed : Result Granted Refusal → TwoEffects → TwoAnswers
  Took : TwoEffects → TwoAnswers
  NoneThere : TwoAnswers

abbrev pub answer_at : Bool → TwoAnswers → StepAnswer
answer_at b (Obeyed answer e) = Answered answer (effects_at b e)
answer_at b (Took e) = Handled (effects_at b e)
answer_at b NoneThere = Empty

-- One event, and what it came to.
pub record TwoHappenings : Type 0 where
  pub event : Event
  pub answer : TwoAnswers
  pub had_room : Bool

abbrev pub happening_at : Bool → TwoHappenings → Happening
happening_at b x = record { event = x.event; answer = answer_at b x.answer; had_room = x.had_room }

-- A vat, and what is on its way to it.
pub record TwoSides : Type 0 where
  pub core : TwoStates
  pub inbox : List TwoMessages

abbrev pub side_at : Bool → TwoSides → Side
side_at b s = record { core = state_at b s.core; inbox = map (message_at b) s.inbox }

-- Two vats.
pub record TwoWorlds : Type 0 where
  pub a : TwoSides
  pub b : TwoSides

abbrev pub world_at : Bool → TwoWorlds → World
world_at b w = record { a = side_at b w.a; b = side_at b w.b }

-- What happened over wires is what happened in a run of one world, and led to where that run led, but for stamps, for contents,
-- for why nodes are broken, and for the letters of the vats.
pub record InOneWorld (root_a root_b : Option ObjectId) (over : List Happening) (led : World) : Type 0 where
  pub happened : List TwoHappenings
  pub worlds : TwoWorlds
  pub is : over ≡ map (happening_at false) happened
  pub leads : led ≡ world_at false worlds
  pub ran : Run (new_world root_a root_b) (map (happening_at true) happened) (world_at true worlds)

-- So it is of every run of two new vats over wires, whatever their letters: both may have the same.
abbrev pub WiredRunsAreRuns : Type 0
WiredRunsAreRuns =
    (letters : Vat → Vat) (root_a root_b : Option ObjectId) (xs : List Happening) (w : World)
    → WiredRun (named_world letters root_a root_b) xs w → InOneWorld root_a root_b xs w
