-- The frames that are written. A message's tree has each struct with all its words and pointers, as rpc.capnp lays them
-- out.
use Rattle.std.specs.Prelude.{◌≡◌, ℕ, if◌then◌else◌, [], ◌∷◌, Option, Some, None, Result, Ok, Err}
use Rattle.capn_trees.specs.declared.faults.WriteFault.{WriteFault}
use Rattle.capn_trees.specs.declared.faults.WriteFault.TheVariants as write
use Rattle.capn_trees.specs.Trees.{Tree, struct}
use Rattle.capn_trees.specs.Writable.{refusal, is_deeper}
use Rattle.capn_writing.specs.Placing.{written}
use Rattle.rpc_msg.specs.Payloads.{Contents}
use Rattle.rpc_msg.specs.declared.message.PlainMessage.{PlainMessage}
use Rattle.rpc_msg.specs.declared.message.PlainMessage.TheVariants as plain
use Rattle.rpc_msg.specs.declared.message.Message.{Message}
use Rattle.rpc_msg.specs.declared.message.Message.TheVariants as message
use Rattle.rpc_codec_parts.specs.Blocks.{one}
use Rattle.rpc_codec_parts.specs.Exceptions.{exception_tree}
use Rattle.rpc_codec.specs.declared.envelope.SentElsewhere.{SentElsewhere}
use Rattle.rpc_codec.specs.declared.errors.EncodeFault.{EncodeFault}
use Rattle.rpc_codec.specs.declared.errors.EncodeFault.TheVariants.{NumberAlone, Unwritable}
use Rattle.rpc_codec.specs.declared.errors.EncodeError.{EncodeError}
use Rattle.rpc_codec.specs.declared.errors.EncodeError.TheVariants as errors
use Rattle.rpc_codec.specs.Decoding.{any_caps}
use Rattle.rpc_codec.specs.Questions.{bootstrap_tree, call_tree, finish_tree}
use Rattle.rpc_codec.specs.Returns.{return_tree, sent_elsewhere_tree}
use Rattle.rpc_codec.specs.Exports.{resolve_tree, release_tree, disembargo_tree}

-- what is written, or the first reason that it isn't
abbrev pub Written : Type 0 → Type 0
Written A = Result A EncodeFault

infixl 10 ◌>>=◌
abbrev pub ◌>>=◌ : {A B : Type 0} → Written A → (A → Written B) → Written B
(Ok x) >>= f = f x
(Err e) >>= f = Err e

-- a Message, by its number in the union
abbrev pub envelope : ℕ → Tree → Tree
envelope which t = struct (which ∷ []) (one t)

-- A number alone is no message.
abbrev pub plain_tree : PlainMessage → Written Tree
plain_tree (plain.Abort e) = Ok (envelope 1 (exception_tree e))
plain_tree (plain.Bootstrap q) = Ok (envelope 8 (bootstrap_tree q))
plain_tree (plain.Call c) = Ok (envelope 2 (call_tree c))
plain_tree (plain.Return r) = Ok (envelope 3 (return_tree r))
plain_tree (plain.Finish f) = Ok (envelope 4 (finish_tree f))
plain_tree (plain.Resolve r) = Ok (envelope 5 (resolve_tree r))
plain_tree (plain.Release r) = Ok (envelope 6 (release_tree r))
plain_tree (plain.Disembargo d) = Ok (envelope 13 (disembargo_tree d))
plain_tree (plain.Other number) = Err NumberAlone

abbrev pub message_tree : Message → Written Tree
message_tree (message.Plain m) = plain_tree m
message_tree (message.Unimplemented m) = plain_tree m >>= λ t. Ok (envelope 0 t)

-- the frame of a tree, in one segment
abbrev pub frame_by : Option WriteFault → Tree → Written Contents
frame_by None t = Ok (record { bytes = written t; caps = any_caps })
frame_by (Some f) t = Err (Unwritable f)

abbrev pub frame_of : Tree → Written Contents
frame_of t = frame_by (refusal t any_caps) t

abbrev pub refused_as : WriteFault → EncodeError
refused_as write.Memory = errors.Memory
refused_as write.TooLarge = errors.Fault (Unwritable write.TooLarge)
refused_as write.BadTag = errors.Fault (Unwritable write.BadTag)
refused_as write.CapIndex = errors.Fault (Unwritable write.CapIndex)
refused_as write.Depth = errors.Fault (Unwritable write.Depth)
refused_as write.Traversal = errors.Fault (Unwritable write.Traversal)

-- the frame of a message
abbrev pub message_frame : Message → Written Contents
message_frame m = message_tree m >>= frame_of

-- the frame of a Return that says that the results of a tail call are kept
abbrev pub sent_elsewhere_frame : SentElsewhere → Written Contents
sent_elsewhere_frame s = frame_of (envelope 3 (sent_elsewhere_tree s))

-- the frame of the Unimplemented that has this message in it, whole. One that nests deeper than a tree may behind a
-- pointer (docs/encoding.md) is too deep before all else.
abbrev pub echo_frame : Tree → Written Contents
echo_frame t = if is_deeper t 127 then Err (Unwritable write.Depth) else frame_of (envelope 0 t)

-- What a function returned is this, unless memory was refused.
abbrev pub Fails : {Y : Type 0} → EncodeError → Written Y → Type 0
Fails errors.Memory said = Unit {0}
Fails (errors.Fault f) said = said ≡ Err f

abbrev pub Writes : {X Y : Type 0} → (X → Y) → Result X EncodeError → Written Y → Type 0
Writes view (Ok x) said = said ≡ Ok (view x)
Writes view (Err e) said = Fails e said
