use Rattle.std.proofs.Common.{◌≡◌, arith}
use Rattle.std.proofs.lemmas.Bool.Decides.{nat_tests}
use Rattle.capn_reading.specs.Reading.{element}
use Rattle.rpc_codec_parts.specs.Blocks.{seen as seen_block}
use Rattle.peer_large.proofs.Steps.{steps_is}
use Rattle.peer_large.proofs.opening.steps_in.Goals as goal

pub returns : goal.returns
returns c =
    let one : element c.args.target.now.words.now 16 2 ≡ 1 = grind (arith, nat_tests) in
    steps_is (element c.args.target.now.words.now 16 2) (seen_block c.args.target.now.words.now c.args.target.now.pointers.now) (seen_block c.in_ok-answer.answer.words.now c.in_ok-answer.answer.pointers.now) c.in_ok-steps.steps.now one
    c.in_ok-answer.ensures c.in_ok-steps.ensures
