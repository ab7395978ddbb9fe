use Rattle.std.proofs.Common.{◌≡◌, ℕ, List, ◌-◌, ◌*◌, ◌/◌, ◌++◌, length, take, drop, subst, arith}
use Rattle.capn_writing.specs.Placing.{packed_words}
use Rattle.capn_writing.proofs.Words.{bytes_pushed}
use Rattle.capn_writing.proofs.place.push_bytes.Goals as goal

pub returns-clause-items : goal.returns-clause-items
returns-clause-items c =
    let zs = c.push_zeros.new.words in
    let mid = c.read_words.new.words in
    let next : c.len-next.result ≡ length c.args.words.now.items = omega arith in
    let len : zs.len ≡ length zs.items = omega arith in
    bytes_pushed c.args.bytes.now c.split_at.result.0.now c.split_at.result.1.now c.args.words.now.items zs.items mid (drop (length mid) zs.items) c.push_packed.new.words.items
    (length c.args.bytes.now / 8 * 8) c.len-next.result zs.len
    c.split_at.ensures.front c.split_at.ensures.back (omega arith) next len c.push_zeros.ensures.items
    (subst (λ (l : List ℕ). mid ≡ take c.len-next.result l ++ packed_words 8 (length l - c.len-next.result) c.split_at.result.0.now) c.deref_mut.ensures.value c.read_words.ensures) c.push_packed.ensures.items
