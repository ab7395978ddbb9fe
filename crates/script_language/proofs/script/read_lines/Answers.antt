use Rattle.std.proofs.Common.{[]}
use Rattle.script_language.specs.Scripts.{lines_from, texts_of}
use Rattle.script_language.proofs.LinesRead.{more, whole, parted, of_some, of_none}
use Rattle.script_language.proofs.script.read_lines.Goals as goal

pub loop-next-preserved : goal.loop-next-preserved
loop-next-preserved c =
    let found = of_some _ _ _ c.in-Ok.ensures.found c.in-Some.is in
    more c.args.program c.loop-next.lines c.add_line.new.lines c.in-Some.text.now (texts_of c.in-Some.behind.now) (lines_from c.args.program 1 (texts_of c.args.script.now)) c.in-Ok-add_line.ensures.added
    (parted c.args.program c.loop-next.lines c.loop-next.rest.now c.in-Some.text.now (texts_of c.in-Some.behind.now) _ found.0 c.loop-next.invariant)

pub returns-in-Ok-add_line-2 : goal.returns-in-Ok-add_line-2
returns-in-Ok-add_line-2 c =
    let last = of_none _ _ c.in-Ok.ensures.last c.in_default.is in
    whole c.args.program c.loop-next.lines c.add_line-2.new.lines c.loop-next.rest.now (lines_from c.args.program 1 (texts_of c.args.script.now)) c.in-Ok-add_line-2.ensures.added
    (parted c.args.program c.loop-next.lines c.loop-next.rest.now c.loop-next.rest.now [] _ last.0 c.loop-next.invariant)
