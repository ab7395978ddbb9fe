use Rattle.std.proofs.Common.{◌≡◌, ℕ, List, ◌++◌, length, take, ap, ◌∙◌, arith}
use Rattle.capn_writing.specs.Placing.{packed_words}
use Rattle.capn_writing.proofs.Words.{read_packed}
use Rattle.capn_writing.proofs.little_endian.read_words.Goals as goal

pub returns : goal.returns
returns c =
    let bytes = c.args.bytes.now in
    let read = c.read_u64_into.new.dst in
    let same : length read ≡ length c.split_at_mut-rest.result.1.now = c.read_u64_into.auto.dst in
    let back = c.split_at_mut-rest.ensures.back_len in
    let room = c.requires in
    ap (λ (l : List ℕ). l ++ read) c.split_at_mut-rest.ensures.front
    ∙ ap (λ (l : List ℕ). take c.args.at c.args.words.now ++ l)
    (read_packed read bytes (omega (arith, same, back, room)) c.read_u64_into.ensures
    ∙ ap (λ (n : ℕ). packed_words 8 n bytes) (omega (arith, same, back)))
