-- The frame of what the peer is told of a message reads back as that message is heard over a wire (docs/laws/over-wires.md).
use Rattle.std.specs.Prelude.{◌≡◌, List, ℕ, Ok}
use Rattle.capn_stream.specs.Fronts.{IsFrame}
use Rattle.rpc_msg.specs.Payloads.{Contents}
use Rattle.rpc_msg.specs.declared.ids.Stamp.{Stamp}
use Rattle.rpc_msg.specs.declared.message.PlainMessage.{PlainMessage}
use Rattle.rpc_msg.specs.declared.message.Message.{Message}
use Rattle.rpc_msg.specs.declared.message.Message.TheVariants as message
use Rattle.rpc_codec.specs.Decoding.{envelope_at}
use Rattle.rpc_codec.specs.Envelopes.{profile}
use Rattle.rpc_codec.specs.Frames.{message_frame}
use Rattle.rpc_outgoing.specs.Outflows.{AsksWithin, IsSayable, NamesWithin}
use Rattle.peer_tail_calls.specs.Laws.{told_plain}
use Rattle.peer_tail_calls.specs.Nulling.{IsLaidOut}
use Rattle.laws_wired.specs.Wires.{IsHeard}

-- These bytes are one frame, and with any stamp they say something that is heard of the message over a wire. What the message asks and
-- names is among what a vat may have.
pub record ReadsBack (m : Message) (frame : List ℕ) : Type 0 where
  pub whole : IsFrame frame
  pub says : (stamp : Stamp) → (x : Message) × IsHeard m x × (envelope_at stamp frame ≡ Ok (profile x))
  pub asks : AsksWithin m
  pub names : NamesWithin m

-- Of a message, the frame of what the peer is told of it reads back, if that went out, and if what is laid out anew says what it said.
abbrev pub FramesReadBack : Type 0
FramesReadBack =
    (m : PlainMessage) (frame : Contents) → message_frame (message.Plain (told_plain m)) ≡ Ok frame → IsSayable (message.Plain (told_plain m)) → IsLaidOut (message.Plain m)
    → ReadsBack (message.Plain m) frame.bytes
