use Rattle.std.proofs.Common.{arith}
use Rattle.rpc_codec_parts.proofs.Within.{answer_within}
use Rattle.rpc_codec_parts.proofs.targets.tree_of_target.Goals as goal

pub with_one-requires-in-PromisedAnswer : goal.with_one-requires-in-PromisedAnswer
with_one-requires-in-PromisedAnswer c n le = rw c.in_ok-answer-in-PromisedAnswer.ensures (answer_within c.in-PromisedAnswer.question c.in-PromisedAnswer.path n (omega arith))

pub returns-in_ok-answer-in-PromisedAnswer-clause-depth : goal.returns-in_ok-answer-in-PromisedAnswer-clause-depth
returns-in_ok-answer-in-PromisedAnswer-clause-depth c =
    c.with_one-in-PromisedAnswer.ensures.depth 64 (λ n le. rw c.in_ok-answer-in-PromisedAnswer.ensures (answer_within c.in-PromisedAnswer.question c.in-PromisedAnswer.path n (omega arith)))
