use Rattle.std.proofs.Common.{nat_lt, ap, ◌∙◌}
use Rattle.core_queries.proofs.Counted.{question_counted}
use Rattle.core_queries.proofs.peers.names_question.Goals as goal

pub returns : goal.returns
returns c = ap (λ n. nat_lt 0 n) (c.of_question.ensures ∙ question_counted c.args.store.now c.args.id.0 c.requires.none_taken c.requires.sound)
