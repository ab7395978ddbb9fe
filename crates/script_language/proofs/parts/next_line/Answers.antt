use Rattle.std.proofs.Common.{◌∙◌, sym}
use Rattle.script_language.proofs.LineWords.{comment_read, last_comment_read}
use Rattle.script_language.proofs.parts.next_line.Goals as goal

pub returns-in-Some-clause-found : goal.returns-in-Some-clause-found
returns-in-Some-clause-found c =
    comment_read c.args.text.now c.in-Some.line.now c.in-Some.behind.now _ (sym c.is_comment.ensures ∙ c.if-not-is_comment.false) c.in-Some.ensures.found.0 c.in-Some.ensures.found.1

pub returns-in-None-clause-last : goal.returns-in-None-clause-last
returns-in-None-clause-last c =
    last_comment_read c.args.text.now _ (sym c.is_comment.ensures ∙ c.if-not-is_comment.false) c.in-None.ensures.none
