-- What a frame says: `Message` of rpc.capnp.
use Rattle.std.specs.Prelude.{ℕ, ◌==◌, if◌then◌else◌, Ok, Err}
use Rattle.capn_trees.specs.Trees.{Tree, null, struct, list, capability}
use Rattle.capn_trees.specs.Views.{view}
use Rattle.capn_reading.specs.Reading.{element}
use Rattle.rpc_msg.specs.declared.ids.Stamp.{Stamp}
use Rattle.rpc_msg.specs.declared.message.Call.{Call}
use Rattle.rpc_msg.specs.declared.message.PlainMessage.{PlainMessage}
use Rattle.rpc_msg.specs.declared.message.PlainMessage.TheVariants as plain
use Rattle.rpc_msg.specs.declared.message.Message.{Message}
use Rattle.rpc_msg.specs.declared.message.Message.TheVariants as message
use Rattle.rpc_codec_parts.specs.declared.faults.EnvelopeFault.TheVariants as faults
use Rattle.rpc_codec_parts.specs.Blocks.{Block, block_of, block_at}
use Rattle.rpc_codec_parts.specs.Reading.{Read, ◌>>=◌, unknown, fault}
use Rattle.rpc_codec_parts.specs.Exceptions.{exception_at}
use Rattle.rpc_codec.specs.declared.envelope.Envelope.{Envelope}
use Rattle.rpc_codec.specs.declared.envelope.Envelope.TheVariants as envelope
use Rattle.rpc_codec.specs.declared.envelope.Known.{Known}
use Rattle.rpc_codec.specs.declared.envelope.Known.TheVariants as known
use Rattle.rpc_codec.specs.declared.envelope.SentElsewhere.{SentElsewhere}
use Rattle.rpc_codec.specs.declared.envelope.TakenFromOther.{TakenFromOther}
use Rattle.rpc_codec.specs.Questions.{bootstrap_at, call_at, finish_at}
use Rattle.rpc_codec.specs.Returns.{return_at}
use Rattle.rpc_codec.specs.Exports.{resolve_at, release_at, disembargo_at}

-- what came
pub data What : Type 0 where
  -- a message of the profile
  profile : Message → What
  tail_call : Call → What
  sent_elsewhere : SentElsewhere → What
  taken_from_other : TakenFromOther → What
  -- not understood: its number in the union, and all of it
  strange : ℕ → Tree → What

-- what an envelope of the program stands for
abbrev pub seen_envelope : Envelope → What
seen_envelope (envelope.Message m) = profile m
seen_envelope (envelope.TailCall c) = tail_call c
seen_envelope (envelope.SentElsewhere s) = sent_elsewhere s
seen_envelope (envelope.TakenFromOther s) = taken_from_other s
seen_envelope (envelope.Unknown u) = strange u.number (view u.original)

abbrev pub what_of : Known → What
what_of (known.Plain m) = profile (message.Plain m)
what_of (known.TailCall c) = tail_call c
what_of (known.SentElsewhere s) = sent_elsewhere s
what_of (known.TakenFromOther s) = taken_from_other s

-- a message that is no Unimplemented, by the union's number
abbrev pub known_by : ℕ → Stamp → Block → Read Known
known_by which stamp b =
    if which == 1 then (exception_at 0 b >>= λ e. Ok (known.Plain (plain.Abort e)))  -- abort @1
    else if which == 2 then call_at stamp b  -- call @2
    else if which == 3 then return_at b  -- return @3
    else if which == 4 then (finish_at b >>= λ f. Ok (known.Plain (plain.Finish f)))  -- finish @4
    else if which == 5 then (resolve_at b >>= λ r. Ok (known.Plain (plain.Resolve r)))  -- resolve @5
    else if which == 6 then (release_at b >>= λ r. Ok (known.Plain (plain.Release r)))  -- release @6
    else if which == 8 then (bootstrap_at b >>= λ q. Ok (known.Plain (plain.Bootstrap q)))  -- bootstrap @8
    else if which == 13 then (disembargo_at b >>= λ d. Ok (known.Plain (plain.Disembargo d)))  -- disembargo @13
    else Err unknown

-- Of what came back in an Unimplemented: a tail call was a Call, and of what is no message of the profile the number is
-- kept alone.
abbrev pub plain_of : ℕ → Known → PlainMessage
plain_of which (known.Plain m) = m
plain_of which (known.TailCall c) = plain.Call c
plain_of which (known.SentElsewhere s) = plain.Other which
plain_of which (known.TakenFromOther s) = plain.Other which

abbrev pub came_back : ℕ → Read Known → Read PlainMessage
came_back which (Ok k) = Ok (plain_of which k)
came_back which (Err unknown) = Ok (plain.Other which)
came_back which (Err (fault f)) = Err (fault f)

-- the message in an Unimplemented, by its number
abbrev pub back_by : ℕ → Stamp → Block → Read PlainMessage
back_by which stamp b = if which == 0 then Err (fault faults.NestedUnimplemented) else came_back which (known_by which stamp b)

abbrev pub back_at : Stamp → Block → Read PlainMessage
back_at stamp b = back_by (element b.words 16 0) stamp b

-- unimplemented @0 is a Message
abbrev pub said_by : ℕ → Stamp → Block → Read What
said_by which stamp b =
    if which == 0 then (block_at 0 b >>= λ back. back_at stamp back >>= λ m. Ok (profile (message.Unimplemented m)))
    else (known_by which stamp b >>= λ k. Ok (what_of k))

unfoldable pub said_at : Stamp → Tree → Read What
said_at stamp t = block_of t >>= λ b. said_by (element b.words 16 0) stamp b

-- the union's number
abbrev pub number_at : Tree → ℕ
number_at (struct words ts) = element words 16 0
number_at null = 0
number_at (list elements) = 0
number_at (capability index) = 0
