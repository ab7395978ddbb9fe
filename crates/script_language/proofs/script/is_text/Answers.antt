use Rattle.std.proofs.Common.{sym, subst}
use Rattle.std.specs.Bool.{MatchBool}
use Rattle.std.specs.Str.{IsUtf8}
use Rattle.std.proofs.lemmas.Str.{IsUtf8-from_ascii}
use Rattle.script_language.proofs.script.is_text.Goals as goal

pub returns-then-is_ascii : goal.returns-then-is_ascii
returns-then-is_ascii c =
    subst (λ is. MatchBool is (IsUtf8 c.args.bytes.now) (¬ (IsUtf8 c.args.bytes.now))) (sym c.if-is_ascii.true)
    (IsUtf8-from_ascii c.args.bytes.now (c.is_ascii.ensures c.if-is_ascii.true))
