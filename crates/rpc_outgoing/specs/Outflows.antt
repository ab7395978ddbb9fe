-- The bytes that go out of a vat (docs/messages.md).
use Rattle.std.specs.Prelude.{◌≡◌, ℕ, ◌<◌, ◌==◌, nat_lt, nat_le, Bool, true, false, ◌&&◌, List, [], ◌∷◌, ◌++◌, length, Option, None, Some, Result, Ok, Err}
use Rattle.std.specs.List.{AllByRecursion, list_all}
use Rattle.capn_trees.specs.Trees.{Tree}
use Rattle.rpc_msg.specs.Messages.{descriptors_of}
use Rattle.rpc_msg.specs.Payloads.{Contents, IsEncoded, tree_of}
use Rattle.rpc_msg.specs.declared.parts.Descriptor.{Descriptor}
use Rattle.rpc_msg.specs.declared.parts.Descriptor.TheVariants as descriptor
use Rattle.rpc_msg.specs.declared.message.ReturnBody.{ReturnBody}
use Rattle.rpc_msg.specs.declared.message.ReturnBody.TheVariants as body
use Rattle.rpc_msg.specs.declared.message.PlainMessage.{PlainMessage}
use Rattle.rpc_msg.specs.declared.message.PlainMessage.TheVariants as plain
use Rattle.rpc_msg.specs.declared.message.Message.{Message}
use Rattle.rpc_msg.specs.declared.message.Message.TheVariants as message
use Rattle.rpc_codec.specs.declared.errors.EncodeError.{EncodeError}
use Rattle.rpc_codec.specs.declared.envelope.SentElsewhere.{SentElsewhere}
use Rattle.rpc_codec.specs.Frames.{Written, ◌>>=◌, Fails, echo_frame, message_frame, message_tree, sent_elsewhere_frame}
use Rattle.rpc_codec.specs.Laws.{Fits}
use Rattle.rpc_outgoing.specs.declared.errors.WriteError.{WriteError}
use Rattle.rpc_outgoing.specs.declared.errors.WriteError.TheVariants as errors

-- The bytes that go out, and the frames that are kept to send back what was not understood.
pub record Outflow : Type 0 where
  pub bytes : List ℕ
  pub echoes : List Contents

abbrev pub nothing_out : Outflow
nothing_out = record { bytes = []; echoes = [] }

-- ---- what is kept

abbrev pub KeptBy : Outflow → Written Contents → Outflow → Type 0
KeptBy old (Ok echo) new = new ≡ record old { echoes = old.echoes ++ echo ∷ [] }
KeptBy old (Err f) new = ⊥

-- The frame that sends back what was not understood is kept behind the others, if there is any.
abbrev pub Kept : Outflow → Option Tree → Outflow → Type 0
Kept old None new = new ≡ old
Kept old (Some t) new = KeptBy old (echo_frame t) new

-- why it has no frame
abbrev pub HasNone : EncodeError → Option Tree → Type 0
HasNone e None = ⊥
HasNone e (Some t) = Fails e (echo_frame t)

-- What comes of keeping it: it is kept, or it has no frame or memory is wanting, and nothing changes.
abbrev pub Keeps : Outflow → Option Tree → Result (Unit {0}) EncodeError → Outflow → Type 0
Keeps old original (Ok u) new = Kept old original new
Keeps old original (Err e) new = HasNone e original × (new ≡ old)

-- ---- what may go out

-- How many questions and how many exports a vat may have at once (`table_limit` of rpc_machine). Their ids are below that number.
abbrev pub most_ids : ℕ
most_ids = 4096

-- A question that is asked is one of those that a vat may have.
abbrev pub AsksPlainWithin : PlainMessage → Type 0
AsksPlainWithin (plain.Abort e) = Unit {0}
AsksPlainWithin (plain.Bootstrap q) = q.0 < most_ids
AsksPlainWithin (plain.Call c) = c.question.0 < most_ids
AsksPlainWithin (plain.Return r) = Unit {0}
AsksPlainWithin (plain.Finish f) = Unit {0}
AsksPlainWithin (plain.Resolve r) = Unit {0}
AsksPlainWithin (plain.Release r) = Unit {0}
AsksPlainWithin (plain.Disembargo d) = Unit {0}
AsksPlainWithin (plain.Other n) = Unit {0}

abbrev pub AsksWithin : Message → Type 0
AsksWithin (message.Plain m) = AsksPlainWithin m
AsksWithin (message.Unimplemented m) = Unit {0}

-- An export that is named as the sender's is one of those that a vat may have.
abbrev pub IsNamedWithin : Descriptor → Type 0
IsNamedWithin descriptor.None = Unit {0}
IsNamedWithin (descriptor.SenderHosted e) = e.0 < most_ids
IsNamedWithin (descriptor.SenderPromise e) = e.0 < most_ids
IsNamedWithin (descriptor.ReceiverHosted e) = Unit {0}
IsNamedWithin (descriptor.ReceiverAnswer q path) = Unit {0}

-- So is each that a Call, a Return or a Resolve names.
abbrev pub NamesWithin : Message → Type 0
NamesWithin m = AllByRecursion IsNamedWithin (descriptors_of m)

-- A message that goes out: its numbers are within their widths, what it asks and names is among what a vat may have, and its frame
-- says it.
pub record IsSayable (m : Message) : Type 0 where
  pub fits : Fits m
  pub asks : AsksWithin m
  pub names : NamesWithin m
  pub says : (frame : Contents) → message_frame m ≡ Ok frame → IsEncoded frame × (message_tree m ≡ Ok (tree_of frame))

-- ---- the same as tests

abbrev pub asks_within : Message → Bool
asks_within (message.Plain (plain.Abort e)) = true
asks_within (message.Plain (plain.Bootstrap q)) = nat_lt q.0 most_ids
asks_within (message.Plain (plain.Call c)) = nat_lt c.question.0 most_ids
asks_within (message.Plain (plain.Return r)) = true
asks_within (message.Plain (plain.Finish f)) = true
asks_within (message.Plain (plain.Resolve r)) = true
asks_within (message.Plain (plain.Release r)) = true
asks_within (message.Plain (plain.Disembargo d)) = true
asks_within (message.Plain (plain.Other n)) = true
asks_within (message.Unimplemented m) = true

abbrev pub is_named_within : Descriptor → Bool
is_named_within descriptor.None = true
is_named_within (descriptor.SenderHosted e) = nat_lt e.0 most_ids
is_named_within (descriptor.SenderPromise e) = nat_lt e.0 most_ids
is_named_within (descriptor.ReceiverHosted e) = true
is_named_within (descriptor.ReceiverAnswer q path) = true

abbrev pub names_within : Message → Bool
names_within m = list_all is_named_within (descriptors_of m)

-- Contents go with a descriptor for each of their capabilities, and with at most 4,096.
abbrev pub is_described : Contents → List Descriptor → Bool
is_described p ds = p.caps == length ds && nat_le (length ds) 4096

abbrev pub is_described_body : ReturnBody → Bool
is_described_body (body.Results p ds) = is_described p ds
is_described_body (body.Exception e) = true
is_described_body body.Canceled = true

abbrev pub is_described_plain : PlainMessage → Bool
is_described_plain (plain.Abort e) = true
is_described_plain (plain.Bootstrap q) = true
is_described_plain (plain.Call c) = is_described c.payload c.descriptors
is_described_plain (plain.Return r) = is_described_body r.body
is_described_plain (plain.Finish f) = true
is_described_plain (plain.Resolve r) = true
is_described_plain (plain.Release r) = true
is_described_plain (plain.Disembargo d) = true
is_described_plain (plain.Other n) = true

-- the contents of a message, or of one that is sent back
abbrev pub describes_contents : Message → Bool
describes_contents (message.Plain m) = is_described_plain m
describes_contents (message.Unimplemented m) = is_described_plain m

-- A message is sound: so is each that a vat says, whatever its application does.
abbrev pub is_sound : Message → Bool
is_sound m = asks_within m && (names_within m && describes_contents m)

-- ---- what goes out

-- it sends back what is a number alone
abbrev pub is_alone : Message → Bool
is_alone (message.Unimplemented (plain.Other number)) = true
is_alone m = false

-- a frame, with those that are kept then; or why there is none
abbrev pub Framing : Type 0
Framing = Written (Contents × List Contents)

abbrev pub framed : List Contents → Written Contents → Framing
framed echoes w = w >>= λ frame. Ok (frame, echoes)

abbrev pub frame_by : Bool → List Contents → Message → Framing
frame_by true (echo ∷ echoes) m = Ok (echo, echoes)
frame_by true [] m = framed [] (message_frame m)
frame_by false echoes m = framed echoes (message_frame m)

-- The frame that goes out for a message: where it sends back a number alone the oldest that is kept, else its own.
abbrev pub frame_for : List Contents → Message → Framing
frame_for echoes m = frame_by (is_alone m) echoes m

abbrev pub put : Outflow → Contents × List Contents → Outflow
put old x = record { bytes = old.bytes ++ x.0.bytes; echoes = x.1 }

abbrev pub PutBy : Outflow → Framing → Outflow → Type 0
PutBy old (Ok x) new = new ≡ put old x
PutBy old (Err f) new = ⊥

-- A message goes out.
abbrev pub Put : Outflow → Message → Outflow → Type 0
Put old m new = IsSayable m × PutBy old (frame_for old.echoes m) new

-- A Return goes out that says that the results of a tail call are kept.
abbrev pub PutElsewhere : Outflow → SentElsewhere → Outflow → Type 0
PutElsewhere old s new = PutBy old (framed old.echoes (sent_elsewhere_frame s)) new

-- why a message does not go out
abbrev pub IsHeld : WriteError → Outflow → Message → Type 0
IsHeld (errors.Encode e) old m = Fails e (frame_for old.echoes m)
IsHeld errors.Unsound old m = is_sound m ≡ false

-- What comes of writing a message: it goes out; or it has no frame, memory is wanting, or it is not sound, and nothing changes.
abbrev pub Puts : Outflow → Message → Result (Unit {0}) WriteError → Outflow → Type 0
Puts old m (Ok u) new = Put old m new
Puts old m (Err e) new = IsHeld e old m × (new ≡ old)

-- The same of such a Return.
abbrev pub PutsElsewhere : Outflow → SentElsewhere → Result (Unit {0}) EncodeError → Outflow → Type 0
PutsElsewhere old s (Ok u) new = PutElsewhere old s new
PutsElsewhere old s (Err e) new = Fails e (sent_elsewhere_frame s) × (new ≡ old)
