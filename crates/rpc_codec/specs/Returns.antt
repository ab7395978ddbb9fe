-- `Return` of rpc.capnp: what is read of it, and the tree that is written.
use Rattle.std.specs.Prelude.{ℕ, ◌+◌, ◌*◌, ◌^◌, ◌==◌, if◌then◌else◌, [], ◌∷◌, Ok, Err}
use Rattle.capn_trees.specs.Trees.{Tree, null, struct}
use Rattle.capn_reading.specs.Reading.{element}
use Rattle.rpc_msg.specs.declared.message.ReturnBody.{ReturnBody}
use Rattle.rpc_msg.specs.declared.message.ReturnBody.TheVariants as body
use Rattle.rpc_msg.specs.declared.message.Return.{Return}
use Rattle.rpc_msg.specs.declared.message.PlainMessage.TheVariants as plain
use Rattle.rpc_codec_parts.specs.declared.faults.EnvelopeFault.TheVariants.{UnknownReturn}
use Rattle.rpc_codec_parts.specs.Blocks.{Block, block_at, one}
use Rattle.rpc_codec_parts.specs.Reading.{Read, ◌>>=◌, unknown, fault}
use Rattle.rpc_codec_parts.specs.Exceptions.{exception_at, exception_tree}
use Rattle.rpc_codec_parts.specs.Payloads.{payload_at, payload_tree}
use Rattle.rpc_codec.specs.declared.envelope.Known.{Known}
use Rattle.rpc_codec.specs.declared.envelope.SentElsewhere.{SentElsewhere}
use Rattle.rpc_codec.specs.declared.envelope.Known.TheVariants as known
use Rattle.rpc_codec.specs.Questions.{flag_bit}

-- the kinds that the profile has, by the union's number
abbrev pub body_by : ℕ → Block → Read ReturnBody
body_by which b =
    if which == 0 then (payload_at 0 b >>= λ p. Ok (body.Results p.0 p.1))  -- results @2
    else if which == 1 then (exception_at 0 b >>= λ e. Ok (body.Exception e))  -- exception @3
    else if which == 2 then Ok body.Canceled  -- canceled @4
    else Err unknown

-- A Return that is not understood is a fault: its question would stay open for good.
abbrev pub understood : Read ReturnBody → Read ReturnBody
understood (Ok b) = Ok b
understood (Err unknown) = Err (fault UnknownReturn)
understood (Err (fault f)) = Err (fault f)

-- answerId @0; releaseParamCaps @1, whose default is true; noFinishNeeded @8 is ignored
unfoldable pub return_of : Block → Read Return
return_of b = do
  said ← understood (body_by (element b.words 16 3) b)
  Ok (record {
    answer = record { 0 = element b.words 32 0 };
    release_param_caps = element b.words 1 32 == 0;
    body = said;
  })

abbrev pub return_by : ℕ → Block → Read Known
return_by which b =
    if which == 3 then Ok (known.SentElsewhere (record {  -- resultsSentElsewhere @5
      answer = record { 0 = element b.words 32 0 };
      release_param_caps = element b.words 1 32 == 0;
    }))
    else if which == 4 then Ok (known.TakenFromOther (record {  -- takeFromOtherQuestion @6
      answer = record { 0 = element b.words 32 0 };
      release_param_caps = element b.words 1 32 == 0;
      question = record { 0 = element b.words 32 2 };
    }))
    else (return_of b >>= λ r. Ok (known.Plain (plain.Return r)))

unfoldable pub return_at : Block → Read Known
return_at b = block_at 0 b >>= λ m. return_by (element m.words 16 3) m

-- ---- written

abbrev pub body_number : ReturnBody → ℕ
body_number (body.Results p ds) = 0
body_number (body.Exception e) = 1
body_number body.Canceled = 2

abbrev pub body_tree : ReturnBody → Tree
body_tree (body.Results p ds) = payload_tree p ds
body_tree (body.Exception e) = exception_tree e
body_tree body.Canceled = null

abbrev pub return_tree : Return → Tree
return_tree r = struct ((r.answer.0 + flag_bit r.release_param_caps + 2 ^ 48 * body_number r.body) ∷ 0 ∷ []) (one (body_tree r.body))

-- resultsSentElsewhere @5
abbrev pub sent_elsewhere_tree : SentElsewhere → Tree
sent_elsewhere_tree s = struct ((s.answer.0 + flag_bit s.release_param_caps + 2 ^ 48 * 3) ∷ 0 ∷ []) (one null)
