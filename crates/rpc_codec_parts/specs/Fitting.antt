-- What each value of the types has by itself: numbers within their widths, paths of at most 16 steps, texts in UTF-8; how
-- deep trees nest; and payloads that are read back.
use Rattle.std.specs.Prelude.{◌≡◌, ℕ, ◌^◌, ◌<◌, ◌≤◌, List, length, None, false}
use Rattle.std.specs.List.{AllByRecursion}
use Rattle.capn_trees.specs.Trees.{Tree, Trees}
use Rattle.capn_trees.specs.Writable.{refusal, is_deeper, are_deeper}
use Rattle.capn_writing.specs.Placing.{written}
use Rattle.rpc_msg.specs.Payloads.{Contents, tree_of}
use Rattle.rpc_msg.specs.Op.{Op}
use Rattle.rpc_msg.specs.Op.TheVariants.{Noop, Field}
use Rattle.rpc_msg.specs.declared.parts.Descriptor.{Descriptor}
use Rattle.rpc_msg.specs.declared.parts.Descriptor.TheVariants as descriptor
use Rattle.rpc_msg.specs.declared.parts.Target.{Target}
use Rattle.rpc_msg.specs.declared.parts.Target.TheVariants.{ImportedCap, PromisedAnswer}

abbrev pub FitsOp : Op → Type 0
FitsOp Noop = Unit {0}
FitsOp (Field n) = n < 2 ^ 16

abbrev pub FitsPath : List Op → Type 0
FitsPath path = AllByRecursion FitsOp path × length path ≤ 16

abbrev pub FitsTarget : Target → Type 0
FitsTarget (ImportedCap id) = id.0 < 2 ^ 32
FitsTarget (PromisedAnswer question path) = question.0 < 2 ^ 32 × FitsPath path

abbrev pub FitsDescriptor : Descriptor → Type 0
FitsDescriptor descriptor.None = Unit {0}
FitsDescriptor (descriptor.SenderHosted id) = id.0 < 2 ^ 32
FitsDescriptor (descriptor.SenderPromise id) = id.0 < 2 ^ 32
FitsDescriptor (descriptor.ReceiverHosted id) = id.0 < 2 ^ 32
FitsDescriptor (descriptor.ReceiverAnswer question path) = question.0 < 2 ^ 32 × FitsPath path

-- ---- payloads

-- a content as it is laid out anew
abbrev pub rewritten : Contents → Contents
rewritten p = record { bytes = written (tree_of p); caps = p.caps }

-- The content can be laid out by itself with its capabilities, of which each has a descriptor, and of these there are few
-- enough.
pub record FitsPayload (p : Contents) (ds : List Descriptor) : Type 0 where
  pub caps : p.caps ≡ length ds
  pub few : length ds ≤ 4096
  pub content : refusal (tree_of p) p.caps ≡ None
  pub descriptors : AllByRecursion FitsDescriptor ds

-- ---- depths

-- nests at most so deep
abbrev pub IsWithin : ℕ → Tree → Type 0
IsWithin k t = (n : ℕ) → k ≤ n → is_deeper t n ≡ false

abbrev pub AreWithin : ℕ → Trees → Type 0
AreWithin k ts = (n : ℕ) → k ≤ n → are_deeper ts n ≡ false
