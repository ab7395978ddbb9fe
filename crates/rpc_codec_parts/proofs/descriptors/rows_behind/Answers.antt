use Rattle.std.proofs.Common.{ap, ◌∙◌}
use Rattle.rpc_codec_parts.specs.Reading.{◌>>=◌}
use Rattle.rpc_codec_parts.specs.Descriptors.{few_of, rows_at}
use Rattle.rpc_codec_parts.proofs.Lists.{long_table, short_table}
use Rattle.rpc_codec_parts.proofs.descriptors.rows_behind.Goals as goal

pub returns-then-rows-gt-MOST_DESCRIPTORS-clause-rows : goal.returns-then-rows-gt-MOST_DESCRIPTORS-clause-rows
unfolding rows_at
returns-then-rows-gt-MOST_DESCRIPTORS-clause-rows c = ap (λ r. r >>= few_of) c.in_ok-rows.ensures ∙ long_table c.in_ok-rows.rows.now c.if-rows-gt-MOST_DESCRIPTORS.true

pub returns-clause-rows : goal.returns-clause-rows
unfolding rows_at
returns-clause-rows c = ap (λ r. r >>= few_of) c.in_ok-rows.ensures ∙ short_table c.in_ok-rows.rows.now c.if-rows-gt-MOST_DESCRIPTORS.false
