-- `Bootstrap`, `Call` and `Finish` of rpc.capnp: what is read of them, and the trees that are written.
-- `element words bits k` is the field that stands at k times its own size.
use Rattle.std.specs.Prelude.{ℕ, ◌+◌, ◌*◌, ◌^◌, ◌==◌, Bool, if◌then◌else◌, [], ◌∷◌, Ok, Err}
use Rattle.capn_trees.specs.Trees.{Tree, null, struct, no_trees}
use Rattle.capn_reading.specs.Reading.{element}
use Rattle.rpc_msg.specs.declared.ids.QuestionId.{QuestionId}
use Rattle.rpc_msg.specs.declared.ids.Stamp.{Stamp}
use Rattle.rpc_msg.specs.declared.message.Call.{Call}
use Rattle.rpc_msg.specs.declared.message.Finish.{Finish}
use Rattle.rpc_msg.specs.declared.message.PlainMessage.TheVariants as plain
use Rattle.rpc_codec_parts.specs.Blocks.{Block, block_at, one, three}
use Rattle.rpc_codec_parts.specs.Reading.{Read, ◌>>=◌, unknown}
use Rattle.rpc_codec_parts.specs.Targets.{target_at, target_tree}
use Rattle.rpc_codec_parts.specs.Payloads.{payload_at, payload_tree}
use Rattle.rpc_codec.specs.declared.envelope.Known.{Known}
use Rattle.rpc_codec.specs.declared.envelope.Known.TheVariants as known

-- Bootstrap: questionId @0; deprecatedObjectId @1 is ignored
unfoldable pub bootstrap_at : Block → Read QuestionId
bootstrap_at b = block_at 0 b >>= λ m. Ok (record { 0 = element m.words 32 0 })

-- Call: questionId @0, target @1, interfaceId @2, methodId @3, params @4; allowThirdPartyTailCall @8 is ignored
unfoldable pub call_of : Stamp → Block → Read Call
call_of stamp b = do
  target ← target_at 0 b
  params ← payload_at 1 b
  Ok (record {
    question = record { 0 = element b.words 32 0 };
    target = target;
    interface = element b.words 64 1;
    method = element b.words 16 2;
    payload = params.0;
    descriptors = params.1;
    stamp = stamp;
  })

-- Call.sendResultsTo, by its number, which is looked at first
abbrev pub call_by : ℕ → Stamp → Block → Read Known
call_by results_to stamp b =
    if results_to == 0 then (call_of stamp b >>= λ c. Ok (known.Plain (plain.Call c)))  -- caller @5
    else if results_to == 1 then (call_of stamp b >>= λ c. Ok (known.TailCall c))  -- yourself @6
    else Err unknown  -- thirdParty @7

unfoldable pub call_at : Stamp → Block → Read Known
call_at stamp b = block_at 0 b >>= λ m. call_by (element m.words 16 3) stamp m

-- Finish: questionId @0; releaseResultCaps @1, whose default is true
unfoldable pub finish_at : Block → Read Finish
finish_at b = block_at 0 b >>= λ m. Ok (record {
  question = record { 0 = element m.words 32 0 };
  release_result_caps = element m.words 1 32 == 0;
})

-- ---- written

abbrev pub bootstrap_tree : QuestionId → Tree
bootstrap_tree q = struct (q.0 ∷ []) (one null)

abbrev pub call_tree : Call → Tree
call_tree c = struct ((c.question.0 + 2 ^ 32 * c.method) ∷ c.interface ∷ 0 ∷ [])
    (three (target_tree c.target) (payload_tree c.payload c.descriptors) null)

-- a flag whose default is true, in bit 32
abbrev pub flag_bit : Bool → ℕ
flag_bit b = if b then 0 else 2 ^ 32

abbrev pub finish_tree : Finish → Tree
finish_tree f = struct ((f.question.0 + flag_bit f.release_result_caps) ∷ []) no_trees
