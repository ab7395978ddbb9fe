use Rattle.std.proofs.Common.{arith}
use Rattle.std.proofs.lemmas.Str.Pattern.{starts_char}
use Rattle.chart_parts.proofs.Numbers.{parsed, unsigned}
use Rattle.chart_parts.proofs.number.read_number.Goals as goal

pub returns : goal.returns
returns c =
    parsed c.args.word.now c.parse.result _ c.parse.ensures.value.0
    (unsigned c.args.word.now _ (starts_char 43 c.args.word.now _ c.starts_with.ensures.cases (omega arith) (omega arith)) c.if-starts_with.false) c.ok.ensures.value
