-- `Resolve`, `Release` and `Disembargo` of rpc.capnp: what is read of them, and the trees that are written.
use Rattle.std.specs.Prelude.{ℕ, ◌+◌, ◌*◌, ◌^◌, ◌==◌, if◌then◌else◌, [], ◌∷◌, Ok, Err}
use Rattle.capn_trees.specs.Trees.{Tree, struct, no_trees}
use Rattle.capn_reading.specs.Reading.{element}
use Rattle.rpc_msg.specs.declared.message.ResolvedTo.{ResolvedTo}
use Rattle.rpc_msg.specs.declared.message.ResolvedTo.TheVariants as to
use Rattle.rpc_msg.specs.declared.message.Resolve.{Resolve}
use Rattle.rpc_msg.specs.declared.message.Release.{Release}
use Rattle.rpc_msg.specs.declared.message.DisembargoContext.{DisembargoContext}
use Rattle.rpc_msg.specs.declared.message.DisembargoContext.TheVariants.{SenderLoopback, ReceiverLoopback}
use Rattle.rpc_msg.specs.declared.message.Disembargo.{Disembargo}
use Rattle.rpc_codec_parts.specs.Blocks.{Block, block_at, one}
use Rattle.rpc_codec_parts.specs.Reading.{Read, ◌>>=◌, unknown}
use Rattle.rpc_codec_parts.specs.Targets.{target_at, target_tree}
use Rattle.rpc_codec_parts.specs.Descriptors.{descriptor_at, descriptor_tree}
use Rattle.rpc_codec_parts.specs.Exceptions.{exception_at, exception_tree}

abbrev pub resolved_by : ℕ → Block → Read ResolvedTo
resolved_by which b =
    if which == 0 then (block_at 0 b >>= λ d. descriptor_at d >>= λ x. Ok (to.Cap x))  -- cap @1
    else if which == 1 then (exception_at 0 b >>= λ e. Ok (to.Exception e))  -- exception @2
    else Err unknown

-- Resolve: promiseId @0
unfoldable pub resolve_at : Block → Read Resolve
resolve_at b = do
  m ← block_at 0 b
  what ← resolved_by (element m.words 16 2) m
  Ok (record { promise = record { 0 = element m.words 32 0 }; to = what })

-- Release: id @0, referenceCount @1
unfoldable pub release_at : Block → Read Release
release_at b = block_at 0 b >>= λ m. Ok (record {
  export = record { 0 = element m.words 32 0 };
  count = element m.words 32 1;
})

abbrev pub context_by : ℕ → Block → Read DisembargoContext
context_by which b =
    if which == 0 then Ok (SenderLoopback (record { 0 = element b.words 32 0 }))  -- senderLoopback @1
    else if which == 1 then Ok (ReceiverLoopback (record { 0 = element b.words 32 0 }))  -- receiverLoopback @2
    else Err unknown

-- Disembargo: target @0, and the context, which is looked at first
unfoldable pub disembargo_at : Block → Read Disembargo
disembargo_at b = do
  m ← block_at 0 b
  context ← context_by (element m.words 16 2) m
  target ← target_at 0 m
  Ok (record { target = target; context = context })

-- ---- written

abbrev pub resolved_number : ResolvedTo → ℕ
resolved_number (to.Cap d) = 0
resolved_number (to.Exception e) = 1

abbrev pub resolved_tree : ResolvedTo → Tree
resolved_tree (to.Cap d) = descriptor_tree d
resolved_tree (to.Exception e) = exception_tree e

abbrev pub resolve_tree : Resolve → Tree
resolve_tree r = struct ((r.promise.0 + 2 ^ 32 * resolved_number r.to) ∷ []) (one (resolved_tree r.to))

abbrev pub release_tree : Release → Tree
release_tree r = struct ((r.export.0 + 2 ^ 32 * r.count) ∷ []) no_trees

abbrev pub context_word : DisembargoContext → ℕ
context_word (SenderLoopback id) = id.0
context_word (ReceiverLoopback id) = id.0 + 2 ^ 32

abbrev pub disembargo_tree : Disembargo → Tree
disembargo_tree d = struct (context_word d.context ∷ []) (one (target_tree d.target))
