-- Messages whose contents are null and go with no capabilities: each word of their frames stands in a fixed place.
use Rattle.std.specs.Prelude.{◌≡◌, ℕ, ◌+◌, ◌*◌, ◌^◌, List, [], ◌∷◌, Ok}
use Rattle.capn_trees.specs.Trees.{Tree, null, struct}
use Rattle.capn_trees.specs.Widths.{AreOf}
use Rattle.capn_writing.specs.Placing.{segment_for, written}
use Rattle.rpc_msg.specs.Payloads.{Contents, IsEncoded, tree_of, null_payload}
use Rattle.rpc_msg.specs.declared.ids.Stamp.{Stamp}
use Rattle.rpc_msg.specs.declared.parts.Target.TheVariants.{ImportedCap}
use Rattle.rpc_msg.specs.declared.message.Call.{Call}
use Rattle.rpc_msg.specs.declared.message.Finish.{Finish}
use Rattle.rpc_msg.specs.declared.message.Message.{Message}
use Rattle.rpc_msg.specs.declared.message.Return.{Return}
use Rattle.rpc_msg.specs.declared.message.ReturnBody.TheVariants as body
use Rattle.rpc_codec_parts.specs.Blocks.{one, two, three}
use Rattle.rpc_codec.specs.declared.bare.BareCall.{BareCall}
use Rattle.rpc_codec.specs.declared.bare.BareReturn.{BareReturn}
use Rattle.rpc_codec.specs.Decoding.{any_caps}
use Rattle.rpc_codec.specs.Frames.{envelope, message_tree, message_frame}
use Rattle.rpc_codec.specs.Questions.{flag_bit, finish_tree}

abbrev pub bare_payload : Tree
bare_payload = struct [] (two null null)

abbrev pub bare_call : BareCall → Tree
bare_call c = envelope 2 (struct ((c.question.0 + 2 ^ 32 * c.method) ∷ c.interface ∷ 0 ∷ []) (three (struct (c.target.0 ∷ []) (one null)) bare_payload null))

abbrev pub bare_return : BareReturn → Tree
bare_return r = envelope 3 (struct ((r.answer.0 + flag_bit r.release_param_caps + 2 ^ 48 * 0) ∷ 0 ∷ []) (one bare_payload))

abbrev pub bare_finish : Finish → Tree
bare_finish f = envelope 4 (finish_tree f)

-- the Call and the Return that these are
abbrev pub called : Stamp → BareCall → Call
called stamp c = record {
  question = c.question;
  target = ImportedCap c.target;
  interface = c.interface;
  method = c.method;
  payload = null_payload;
  descriptors = [];
  stamp = stamp;
}

abbrev pub returned : BareReturn → Return
returned r = record { answer = r.answer; release_param_caps = r.release_param_caps; body = body.Results null_payload [] }

-- The only segment of a message has these words.
abbrev pub IsOnly : List (List ℕ) → List ℕ → Type 0
IsOnly m words = (m ≡ words ∷ []) × AreOf 64 words

-- They are those of this tree.
abbrev pub IsFrame : List (List ℕ) → Tree → Type 0
IsFrame m t = IsOnly m (segment_for t)

-- a frame with this tree, in one segment
abbrev pub IsFrameOf : Tree → Contents → Type 0
IsFrameOf t p = (p ≡ record { bytes = written t; caps = any_caps }) × (IsEncoded p × (tree_of p ≡ t))

-- the frame of this message
abbrev pub SaysMessage : Message → Contents → Type 0
SaysMessage m p = (message_frame m ≡ Ok p) × (IsEncoded p × (message_tree m ≡ Ok (tree_of p)))
