-- A Return that says that results are kept is read from its tree.
use Rattle.std.proofs.Common.{◌≡◌, ℕ, ◌+◌, ◌*◌, ◌^◌, ◌<◌, Bool, List, [], ◌∷◌, Ok, ap, ◌∙◌, lit<}
use Rattle.std.specs.Prelude.{◌==◌}
use Rattle.capn_trees.specs.Trees.{null}
use Rattle.capn_reading.specs.Reading.{element}
use Rattle.rpc_codec_parts.specs.Blocks.{Block, one}
use Rattle.rpc_codec_parts.specs.Reading.{Read, ◌>>=◌}
use Rattle.rpc_codec.specs.declared.envelope.Known.{Known}
use Rattle.rpc_codec.specs.declared.envelope.Known.TheVariants as known
use Rattle.rpc_codec.specs.declared.envelope.SentElsewhere.{SentElsewhere}
use Rattle.rpc_codec.specs.Questions.{flag_bit}
use Rattle.rpc_codec.specs.Returns.{return_by, return_at, sent_elsewhere_tree}
use Rattle.rpc_codec.specs.Envelopes.{what_of, said_at}
use Rattle.rpc_codec.specs.Decoding.{kept, envelope_of}
use Rattle.rpc_codec.specs.Frames.{envelope}
use Rattle.rpc_codec.specs.Laws.{KeptReadBack}
use Rattle.rpc_codec.proofs.BackParts.{block}
use Rattle.rpc_codec.proofs.Numbers.{flag_back, flagged_32, flagged_16}

said : ℕ → Bool → Read Known
said a b = Ok (known.SentElsewhere (record { answer = record { 0 = a }; release_param_caps = b }))

return_back : (ws : List ℕ) (s : SentElsewhere) → s.answer.0 < 2 ^ 32 → return_at (block ws (one (sent_elsewhere_tree s))) ≡ Ok (known.SentElsewhere s)
unfolding return_at said
return_back ws s small =
    let words : List ℕ = (s.answer.0 + flag_bit s.release_param_caps + 2 ^ 48 * 3) ∷ 0 ∷ [] in
    let inner : Block = block words (one null) in
    ap (λ k. return_by k inner) (flagged_16 (0 ∷ []) s.answer.0 3 s.release_param_caps small (lit< tt))
    ∙ ap (λ a. said a (element words 1 32 == 0)) (flagged_32 (0 ∷ []) s.answer.0 3 s.release_param_caps small)
    ∙ ap (said s.answer.0) (flag_back (0 ∷ []) s.answer.0 3 s.release_param_caps small)

pub kept_back : KeptReadBack
unfolding envelope_of said_at
kept_back stamp s small = ap (λ r. kept (envelope 3 (sent_elsewhere_tree s)) (r >>= λ k. Ok (what_of k))) (return_back (3 ∷ []) s small)
