-- `Exception` of rpc.capnp: what is read of it, and the tree that is written. obsoleteIsCallersFault @1,
-- obsoleteDurability @2 and trace @4 are ignored, and left at their defaults.
use Rattle.std.specs.Prelude.{ℕ, ◌*◌, ◌-◌, ◌^◌, ◌==◌, if◌then◌else◌, nat_lt, List, [], ◌∷◌, ◌++◌, length, take, map, slice_index, Ok, Err}
use Rattle.std.specs.Str.{is_utf8}
use Rattle.capn_trees.specs.Trees.{Tree, null, struct, list, capability, Elements, packed, pointers, structs, pointer_at}
use Rattle.capn_reading.specs.Reading.{element}
use Rattle.rpc_msg.specs.declared.exception.ExceptionKind.{ExceptionKind}
use Rattle.rpc_msg.specs.declared.exception.ExceptionKind.TheVariants as kind
use Rattle.rpc_msg.specs.declared.exception.Exception.{Exception}
use Rattle.rpc_codec_parts.specs.declared.faults.EnvelopeFault.TheVariants.{WrongKind, BadText}
use Rattle.rpc_codec_parts.specs.Blocks.{Block, block_at, two}
use Rattle.rpc_codec_parts.specs.Reading.{Read, ◌>>=◌, fault}

-- a byte that is no ASCII character as a question mark
abbrev pub plain_byte : ℕ → ℕ
plain_byte b = if nat_lt 127 b then 63 else b

-- A reason that is not UTF-8 ends no connection.
abbrev pub readable : List ℕ → List ℕ
readable bs = if is_utf8 bs then bs else map plain_byte bs

-- a text, with a zero behind it ("Text" of the encoding specification)
abbrev pub ended : ℕ → List ℕ → Read (List ℕ)
ended last text = if last == 0 then Ok (readable text) else Err (fault BadText)

abbrev pub text_in : List ℕ → Read (List ℕ)
text_in bytes =
    if length bytes == 0 then Err (fault BadText)
    else ended (slice_index bytes (length bytes - 1)) (take (length bytes - 1) bytes)

abbrev pub text_in_list : Elements → Read (List ℕ)
text_in_list (packed bits xs) = if bits == 8 then text_in xs else Err (fault WrongKind)
text_in_list (pointers ts) = Err (fault WrongKind)
text_in_list (structs data_words pointer_words ss) = Err (fault WrongKind)

-- null is the empty text
abbrev pub text_of : Tree → Read (List ℕ)
text_of null = Ok []
text_of (list elements) = text_in_list elements
text_of (struct words ts) = Err (fault WrongKind)
text_of (capability index) = Err (fault WrongKind)

-- Exception.Type: one that is not known is as failed @0
abbrev pub kind_of : ℕ → ExceptionKind
kind_of n =
    if n == 1 then kind.Overloaded  -- overloaded @1
    else if n == 2 then kind.Disconnected  -- disconnected @2
    else if n == 3 then kind.Unimplemented  -- unimplemented @3
    else kind.Failed

-- reason @0, type @3
unfoldable pub exception_at : ℕ → Block → Read Exception
exception_at n b = do
  exception ← block_at n b
  reason ← text_of (pointer_at exception.pointers 0)
  Ok (record { kind = kind_of (element exception.words 16 2); reason = reason })

-- ---- written

abbrev pub kind_number : ExceptionKind → ℕ
kind_number kind.Failed = 0
kind_number kind.Overloaded = 1
kind_number kind.Disconnected = 2
kind_number kind.Unimplemented = 3

abbrev pub text_tree : List ℕ → Tree
text_tree text = list (packed 8 (text ++ 0 ∷ []))

abbrev pub exception_tree : Exception → Tree
exception_tree e = struct ((2 ^ 32 * kind_number e.kind) ∷ []) (two (text_tree e.reason) null)
