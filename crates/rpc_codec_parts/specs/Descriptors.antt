-- `CapDescriptor` of rpc.capnp: what is read of it, and the tree that is written. attachedFd @6 is ignored and left at
-- its default.
use Rattle.std.specs.Prelude.{ℕ, ◌+◌, ◌*◌, ◌^◌, ◌==◌, if◌then◌else◌, nat_lt, List, [], ◌∷◌, map, Ok, Err}
use Rattle.capn_trees.specs.Trees.{Tree, null, struct, list, Trees, structs, Structs, no_structs, struct_of, structs_count}
use Rattle.capn_trees.specs.Views.{structs_of}
use Rattle.capn_reading.specs.Reading.{element}
use Rattle.rpc_msg.specs.declared.parts.Descriptor.{Descriptor}
use Rattle.rpc_msg.specs.declared.parts.Descriptor.TheVariants as descriptor
use Rattle.rpc_codec_parts.specs.declared.faults.EnvelopeFault.TheVariants.{TooManyDescriptors}
use Rattle.rpc_codec_parts.specs.Blocks.{Block, of_fields, block_at, structs_at, one}
use Rattle.rpc_codec_parts.specs.Reading.{Read, ◌>>=◌, unknown, fault}
use Rattle.rpc_codec_parts.specs.Targets.{answer_at, answer_tree}

-- ThirdPartyCapDescriptor.vineId @1, which a vat without level 3 uses as an export of the sender
unfoldable pub vine_at : Block → Read Descriptor
vine_at b = block_at 0 b >>= λ third. Ok (descriptor.SenderHosted (record { 0 = element third.words 32 0 }))

-- by the union's number
abbrev pub descriptor_by : ℕ → Block → Read Descriptor
descriptor_by which b =
    if which == 0 then Ok descriptor.None  -- none @0
    else if which == 1 then Ok (descriptor.SenderHosted (record { 0 = element b.words 32 1 }))  -- senderHosted @1
    else if which == 2 then Ok (descriptor.SenderPromise (record { 0 = element b.words 32 1 }))  -- senderPromise @2
    else if which == 3 then Ok (descriptor.ReceiverHosted (record { 0 = element b.words 32 1 }))  -- receiverHosted @3
    else if which == 4 then (answer_at 0 b >>= λ a. Ok (descriptor.ReceiverAnswer a.0 a.1))  -- receiverAnswer @4
    else if which == 5 then vine_at b  -- thirdPartyHosted @5
    else Err unknown

abbrev pub descriptor_at : Block → Read Descriptor
descriptor_at b = descriptor_by (element b.words 16 0) b

abbrev pub descriptors_of : Structs → Read (List Descriptor)
descriptors_of no_structs = Ok []
descriptors_of (struct_of words ts ss) = do
  d ← descriptor_at (of_fields (words, ts))
  ds ← descriptors_of ss
  Ok (d ∷ ds)

-- the rows of a table, of which there are at most 4,096
abbrev pub few_of : Structs → Read Structs
few_of ss = if nat_lt 4096 (structs_count ss) then Err (fault TooManyDescriptors) else Ok ss

unfoldable pub rows_at : ℕ → Block → Read Structs
rows_at n b = structs_at n b >>= few_of

-- ---- written

-- which kind of descriptor, and an id
abbrev pub tagged : ℕ → ℕ → ℕ
tagged which id = which + 2 ^ 32 * id

abbrev pub descriptor_word : Descriptor → ℕ
descriptor_word descriptor.None = 0
descriptor_word (descriptor.SenderHosted id) = tagged 1 id.0
descriptor_word (descriptor.SenderPromise id) = tagged 2 id.0
descriptor_word (descriptor.ReceiverHosted id) = tagged 3 id.0
descriptor_word (descriptor.ReceiverAnswer question path) = 4

abbrev pub descriptor_pointer : Descriptor → Tree
descriptor_pointer descriptor.None = null
descriptor_pointer (descriptor.SenderHosted id) = null
descriptor_pointer (descriptor.SenderPromise id) = null
descriptor_pointer (descriptor.ReceiverHosted id) = null
descriptor_pointer (descriptor.ReceiverAnswer question path) = answer_tree question path

abbrev pub descriptor_tree : Descriptor → Tree
descriptor_tree d = struct (descriptor_word d ∷ []) (one (descriptor_pointer d))

abbrev pub row_of : Descriptor → List ℕ × Trees
row_of d = (descriptor_word d ∷ [], one (descriptor_pointer d))

abbrev pub rows_of : List Descriptor → Structs
rows_of ds = structs_of (map row_of ds)

-- an empty table is null
abbrev pub table_tree : List Descriptor → Tree
table_tree [] = null
table_tree (d ∷ ds) = list (structs 1 1 (rows_of (d ∷ ds)))
