-- Each Finish goes once, behind the Return of its question or at once, and all else goes in its place.
use Rattle.std.specs.Prelude.{◌≡◌, ℕ, ◌+◌, ◌==◌, ◌||◌, Bool, false, if◌then◌else◌, option_to_list, Option, Some, None, List, [], ◌∷◌, ◌++◌}
use Rattle.std.specs.FinMap as finite
use Rattle.rpc_msg.specs.declared.ids.QuestionId.{QuestionId}
use Rattle.rpc_msg.specs.declared.message.Finish.{Finish}
use Rattle.rpc_msg.specs.declared.message.PlainMessage.{PlainMessage}
use Rattle.rpc_msg.specs.declared.message.PlainMessage.TheVariants as plain
use Rattle.rpc_msg.specs.declared.message.Message.{Message}
use Rattle.rpc_msg.specs.declared.message.Message.TheVariants as message
use Rattle.rpc_codec.specs.Envelopes.{What, profile, sent_elsewhere, taken_from_other}
use Rattle.peer_finishes.specs.declared.held.Finishes.TheVariants.{AfterReturn}
use Rattle.peer_finishes.specs.declared.questions.Awaited.{Awaited}
use Rattle.peer_finishes.specs.declared.questions.Awaited.TheVariants.{Asked, Finished}
use Rattle.peer_finishes.specs.Finishing.{Finishing, comes, fresh, goes}

pub record StandsAside : Type 0 where
  pub goes : (m : Message) → goes fresh m ≡ record { state = fresh; said = Some m }
  pub comes : (w : What) → comes fresh w ≡ record { state = fresh; told = None }

-- ---- conversations

pub data Event : Type 0 where
  -- the vat says it
  Says : Message → Event
  -- the peer says it
  Hears : What → Event

-- what the vat says, in order
abbrev pub all_said : List Event → List Message
all_said [] = []
all_said (Says m ∷ es) = m ∷ all_said es
all_said (Hears w ∷ es) = all_said es

abbrev pub told : Option Finish → List Message
told None = []
told (Some f) = message.Plain (plain.Finish f) ∷ []

-- what goes to the peer, in order
abbrev pub all_gone : Finishing → List Event → List Message
all_gone s [] = []
all_gone s (Says m ∷ es) = option_to_list (goes s m).said ++ all_gone (goes s m).state es
all_gone s (Hears w ∷ es) = told (comes s w).told ++ all_gone (comes s w).state es

abbrev pub after : Finishing → List Event → Finishing
after s [] = s
after s (Says m ∷ es) = after (goes s m).state es
after s (Hears w ∷ es) = after (comes s w).state es

-- ---- Finishes among messages

-- the messages that are no Finish
abbrev pub others_plain : PlainMessage → List Message → List Message
others_plain (plain.Finish f) ms = ms
others_plain m ms = message.Plain m ∷ ms

abbrev pub others : List Message → List Message
others [] = []
others (message.Plain m ∷ ms) = others_plain m (others ms)
others (message.Unimplemented m ∷ ms) = message.Unimplemented m ∷ others ms

-- how many Finishes of a question there are
abbrev pub is_finish : QuestionId → Message → Bool
is_finish q (message.Plain (plain.Finish f)) = f.question.0 == q.0
is_finish q m = false

abbrev pub finishes_of : QuestionId → List Message → ℕ
finishes_of q [] = 0
finishes_of q (m ∷ ms) = (if is_finish q m then 1 else 0) + finishes_of q ms

abbrev pub holds : Option Awaited → ℕ
holds None = 0
holds (Some Asked) = 0
holds (Some (Finished flag)) = 1

-- how many Finishes of it are held back
abbrev pub held : QuestionId → Finishing → ℕ
held q s = holds (finite.get s.awaited q.0)

-- ---- the ends of questions

-- the question of the vat that a Return answers
abbrev pub returned_by : What → Option QuestionId
returned_by (profile (message.Plain (plain.Return r))) = Some r.answer
returned_by (sent_elsewhere r) = Some r.answer
returned_by (taken_from_other r) = Some r.answer
returned_by w = None

-- the question that a message asks
abbrev pub asked_by : Message → Option QuestionId
asked_by (message.Plain (plain.Bootstrap q)) = Some q
asked_by (message.Plain (plain.Call c)) = Some c.question
asked_by m = None

-- the question that came back
abbrev pub back_in : What → Option QuestionId
back_in (profile (message.Unimplemented m)) = asked_by (message.Plain m)
back_in w = None

abbrev pub is_that : QuestionId → Option QuestionId → Bool
is_that q None = false
is_that q (Some p) = p.0 == q.0

-- Its Return comes, or it comes back.
abbrev pub ends : QuestionId → What → Bool
ends q w = is_that q (returned_by w) || is_that q (back_in w)

-- how many Finishes of a question were held back when it came back
abbrev pub spared : QuestionId → Finishing → List Event → ℕ
spared q s [] = 0
spared q s (Says m ∷ es) = spared q (goes s m).state es
spared q s (Hears w ∷ es) = (if is_that q (back_in w) then held q s else 0) + spared q (comes s w).state es

-- It does not end.
abbrev pub StaysOpen : QuestionId → List Event → Type 0
StaysOpen q [] = Unit {0}
StaysOpen q (Says m ∷ es) = StaysOpen q es
StaysOpen q (Hears w ∷ es) = (ends q w ≡ false) × StaysOpen q es

abbrev pub IsBehind : What → Option Finish → Type 0
IsBehind w None = Unit {0}
IsBehind w (Some f) = returned_by w ≡ Some f.question

-- No question is open, and Finishes wait from now on.
abbrev pub waiting : Finishing
waiting = record fresh { finishes = AfterReturn }

pub record GoOnce : Type 0 where
  -- all else goes as the vat says it, in its place
  pub places : (s : Finishing) (es : List Event) → others (all_gone s es) ≡ others (all_said es)
  -- each Finish goes once, is held back, or is of a question that came back
  pub once : (s : Finishing) (es : List Event) (q : QuestionId)
      → finishes_of q (all_said es) + held q s ≡ finishes_of q (all_gone s es) + (held q (after s es) + spared q s es)
  -- what goes behind an envelope goes behind the Return of its question
  pub behind : (s : Finishing) (w : What) → IsBehind w (comes s w).told
  -- where Finishes wait, the first one of an open question does not go
  pub waits : (before es : List Event) (m : Message) (f : Finish) → asked_by m ≡ Some f.question → StaysOpen f.question es
      → held f.question (after waiting (before ++ Says m ∷ es)) ≡ 0
      → (goes (after waiting (before ++ Says m ∷ es)) (message.Plain (plain.Finish f))).said ≡ None
