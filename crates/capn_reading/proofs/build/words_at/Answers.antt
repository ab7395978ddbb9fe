use Rattle.std.proofs.Common.{◌+◌, ap, take, drop, ◌∙◌, arith}
use Rattle.capn_reading.specs.Segments.{segment_of}
use Rattle.capn_reading.proofs.Building.{words_more}
use Rattle.capn_reading.proofs.build.words_at.Goals as goal

pub word-requires : goal.word-requires
word-requires c =
    let inside = c.requires.inside in
    omega (arith, inside)

pub loop-k-preserved : goal.loop-k-preserved
loop-k-preserved c =
    let inside = c.requires.inside in
    record {
      same = c.push_reserved.ensures.items ∙ words_more (segment_of c.args.message.now c.args.segment) c.loop-k.words.items c.args.start c.loop-k.k c.word.result c.loop-k.invariant.same (omega (arith, inside)) c.word.ensures;
      count = c.push_reserved.ensures.len ∙ ap (λ n. n + 1) c.loop-k.invariant.count;
      room = c.push_reserved.ensures.capacity ∙ c.loop-k.invariant.room;
    }

pub push_reserved-requires : goal.push_reserved-requires
push_reserved-requires c =
    let count = c.loop-k.invariant.count in
    let room = c.loop-k.invariant.room in
    let test = c.loop-k-test.true in
    omega (arith, count, room, test)

pub returns : goal.returns
returns c = c.loop-k.invariant.same ∙ ap (λ k. take k (drop c.args.start (segment_of c.args.message.now c.args.segment))) (omega arith)
