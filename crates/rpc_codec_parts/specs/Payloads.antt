-- `Payload` of rpc.capnp: what is read of it, and the tree that is written.
use Rattle.std.specs.Prelude.{ℕ, List, [], Option, Some, None, Ok, Err}
use Rattle.capn_trees.specs.declared.faults.WriteFault.{WriteFault}
use Rattle.capn_trees.specs.Trees.{Tree, struct, structs_count, pointer_at}
use Rattle.capn_trees.specs.Writable.{refusal}
use Rattle.capn_writing.specs.Placing.{written}
use Rattle.rpc_msg.specs.Payloads.{Contents, tree_of}
use Rattle.rpc_msg.specs.declared.parts.Descriptor.{Descriptor}
use Rattle.rpc_codec_parts.specs.declared.faults.EnvelopeFault.TheVariants.{BadContent}
use Rattle.rpc_codec_parts.specs.Blocks.{Block, block_at, two}
use Rattle.rpc_codec_parts.specs.Reading.{Read, ◌>>=◌, fault}
use Rattle.rpc_codec_parts.specs.Descriptors.{rows_at, descriptors_of, table_tree}

-- A content laid out by itself, which goes with so many capabilities, unless there is a reason that it can't be.
abbrev pub alone : Option WriteFault → Tree → ℕ → Read Contents
alone None t caps = Ok (record { bytes = written t; caps = caps })
alone (Some f) t caps = Err (fault BadContent)

abbrev pub content_of : Tree → ℕ → Read Contents
content_of t caps = alone (refusal t caps) t caps

-- content @0, which goes with as many capabilities as capTable @1 has rows; the table is read first
unfoldable pub payload_at : ℕ → Block → Read (Contents × List Descriptor)
payload_at n b = do
  payload ← block_at n b
  rows ← rows_at 1 payload
  descriptors ← descriptors_of rows
  content ← content_of (pointer_at payload.pointers 0) (structs_count rows)
  Ok (content, descriptors)

-- ---- written

abbrev pub payload_tree : Contents → List Descriptor → Tree
payload_tree p ds = struct [] (two (tree_of p) (table_tree ds))
