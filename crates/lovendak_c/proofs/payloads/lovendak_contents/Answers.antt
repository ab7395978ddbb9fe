use Rattle.std.proofs.Common.{ℕ, List, Option, subst}
use Rattle.lovendak_c_desk.specs.Contents.{Makes}
use Rattle.lovendak_c.proofs.payloads.lovendak_contents.Goals as goal

pub returns : goal.returns
returns c = (
  c.contents.result,
  subst (λ (text : Option (List ℕ)). Makes c.args.numbers.now text c.args.caps c.args.out.now c.args.len.now c.contents.result c.contents.new.out c.contents.new.len) c.text_of-text.ensures c.contents.ensures,
  c.done.ensures,
)
