-- Counts of exports where a peer makes tail calls (docs/messages.md, "Peers of other make"): what messages give, and what a vat
-- gave with the outcomes of tail calls, which its peer has not seen.
use Rattle.std.specs.Prelude.{◌≡◌, ℕ, ◌+◌, true, if◌then◌else◌, unwrap_or, IsSome, List, [], ◌∷◌, Option, Some, None}
use Rattle.std.specs.FinMap as finite
use Rattle.finite_maps.specs.Tally.{Map, tally}
use Rattle.rpc_msg.specs.Messages.{descriptors_of_body, given}
use Rattle.rpc_msg.specs.declared.ids.ExportId.{ExportId}
use Rattle.rpc_msg.specs.declared.ids.QuestionId.{QuestionId}
use Rattle.rpc_msg.specs.declared.message.Return.{Return}
use Rattle.rpc_msg.specs.declared.message.PlainMessage.{PlainMessage}
use Rattle.rpc_msg.specs.declared.message.PlainMessage.TheVariants as plain
use Rattle.rpc_msg.specs.declared.message.Message.{Message}
use Rattle.rpc_msg.specs.declared.message.Message.TheVariants as message
use Rattle.rpc_codec.specs.Envelopes.{profile}
use Rattle.rpc_codec.specs.Carried.{gives, times}
use Rattle.peer_tail_calls.specs.declared.tails.Tail.{Tail}
use Rattle.peer_tail_calls.specs.declared.tails.Tail.TheVariants.{Asked, Taken, Finishing, Finished, Kept, Told}
use Rattle.peer_tail_calls.specs.declared.heard.Said.{Said}
use Rattle.peer_tail_calls.specs.declared.heard.Said.TheVariants as said
use Rattle.peer_tail_calls.specs.Adapting.{Adapting}

-- ---- what messages give

-- what messages give of an export of their sender
abbrev pub all_give : ExportId → List Message → ℕ
all_give e [] = 0
all_give e (m ∷ ms) = gives e (profile m) + all_give e ms

-- what the peer is told that the vat gives of an export
abbrev pub told_gives : ExportId → Option Said → ℕ
told_gives e None = 0
told_gives e (Some (said.Message m)) = gives e (profile m)
told_gives e (Some (said.SentElsewhere t)) = 0

-- ---- what is held

-- The exports that the vat gave with the outcome of each tail call, from its Return until it hears the Finish, by the answers.
abbrev pub Held : Type 0
Held = Map (List ℕ)

-- what is held of an export
abbrev pub held_of : ExportId → Held → ℕ
held_of e h = tally (times e) h

-- what is held of an answer
abbrev pub under : Held → QuestionId → List ℕ
under h q = unwrap_or (finite.get h q.0) []

-- what the vat gave with an outcome
abbrev pub given_with : Return → List ℕ
given_with r = given (descriptors_of_body r.body)

-- An outcome is there: that of an open tail call is held.
abbrev pub holds : Held → Return → Option Tail → Held
holds h r None = h
holds h r (Some Asked) = finite.insert h r.answer.0 (given_with r)
holds h r (Some (Taken taker)) = finite.insert h r.answer.0 (given_with r)
holds h r (Some (Finishing taker)) = finite.insert h r.answer.0 (given_with r)
holds h r (Some Finished) = h
holds h r (Some (Kept b)) = h
holds h r (Some Told) = h

abbrev pub holds_plain : Held → Adapting → PlainMessage → Held
holds_plain h s (plain.Return r) = holds h r (finite.get s.tails r.answer.0)
holds_plain h s m = h

-- what is held when the vat says a message
abbrev pub held_with : Held → Adapting → Message → Held
held_with h s (message.Plain m) = holds_plain h s m
held_with h s (message.Unimplemented m) = h

-- What a Return gives whose Finish the vat heard before. A vat says `canceled` there, which gives nothing (ReturnBody).
abbrev pub late : ExportId → Return → Option Tail → ℕ
late e r None = 0
late e r (Some Asked) = 0
late e r (Some (Taken taker)) = 0
late e r (Some (Finishing taker)) = 0
late e r (Some Finished) = times e (given_with r)
late e r (Some (Kept b)) = 0
late e r (Some Told) = 0

abbrev pub late_plain : ExportId → Adapting → PlainMessage → ℕ
late_plain e s (plain.Return r) = late e r (finite.get s.tails r.answer.0)
late_plain e s m = 0

abbrev pub gives_late : ExportId → Adapting → Message → ℕ
gives_late e s (message.Plain m) = late_plain e s m
gives_late e s (message.Unimplemented m) = 0

-- ---- what the vat hears of it

-- Of an answer whose Finish the vat heard nothing is held.
abbrev pub after_plain : Held → PlainMessage → Held
after_plain h (plain.Finish f) = finite.remove h f.question.0
after_plain h m = h

abbrev pub after_one : Held → Message → Held
after_one h (message.Plain m) = after_plain h m
after_one h (message.Unimplemented m) = h

-- what is held when the vat has heard these, in order
abbrev pub after : Held → List Message → Held
after h [] = h
after h (m ∷ ms) = after (after_one h m) ms

-- A Finish with a true flag takes off what was held of its answer.
abbrev pub takes_off_plain : ExportId → Held → PlainMessage → ℕ
takes_off_plain e h (plain.Finish f) = if f.release_result_caps then times e (under h f.question) else 0
takes_off_plain e h m = 0

abbrev pub takes_off_one : ExportId → Held → Message → ℕ
takes_off_one e h (message.Plain m) = takes_off_plain e h m
takes_off_one e h (message.Unimplemented m) = 0

-- what these take off of an export, in order
abbrev pub takes_off : ExportId → Held → List Message → ℕ
takes_off e h [] = 0
takes_off e h (m ∷ ms) = takes_off_one e h m + takes_off e (after_one h m) ms

-- The Finish of an answer of which something is held has a true flag.
abbrev pub FlagIsTrue : Held → PlainMessage → Type 0
FlagIsTrue h (plain.Finish f) = IsSome (finite.get h f.question.0) → f.release_result_caps ≡ true
FlagIsTrue h m = Unit {0}

abbrev pub FlagOfOneIsTrue : Held → Message → Type 0
FlagOfOneIsTrue h (message.Plain m) = FlagIsTrue h m
FlagOfOneIsTrue h (message.Unimplemented m) = Unit {0}

abbrev pub FlagsAreTrue : Held → List Message → Type 0
FlagsAreTrue h [] = Unit {0}
FlagsAreTrue h (m ∷ ms) = FlagOfOneIsTrue h m × FlagsAreTrue (after_one h m) ms

-- ---- what is held and the state

-- What is held of an answer, and what its tail call says.
abbrev pub AgreesAt : Option (List ℕ) → Option Tail → Type 0
AgreesAt o None = o ≡ None
AgreesAt o (Some Asked) = o ≡ None
AgreesAt o (Some (Taken taker)) = o ≡ None
AgreesAt o (Some (Finishing taker)) = o ≡ None
AgreesAt o (Some Finished) = o ≡ None
AgreesAt o (Some (Kept b)) = o ≡ Some (given (descriptors_of_body b))
AgreesAt o (Some Told) = IsSome o

-- Something is held exactly of the answers whose outcome is kept or was told in the Return that takes it; where it is kept, what it
-- gives.
abbrev pub Agrees : Held → Adapting → Type 0
Agrees h s = (q : ℕ) → AgreesAt (finite.get h q) (finite.get s.tails q)
