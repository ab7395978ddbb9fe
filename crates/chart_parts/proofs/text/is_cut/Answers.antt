use Rattle.std.proofs.Common.{◌∙◌, sym, map-id, rules}
use Rattle.std.specs.Str.{chars}
use Rattle.std.proofs.lemmas.Iterator.{YieldsList-from_chars}
use Rattle.std.proofs.lemmas.Iterator.Consumers.{YieldsList-so_far, YieldsList-turn, YieldsList-end}
use Rattle.chart_parts.proofs.Shown.{is_over, is_under}
use Rattle.chart_parts.proofs.text.is_cut.Goals as goal

pub returns-then-width-place : goal.returns-then-width-place
returns-then-width-place c =
    let all = YieldsList-from_chars c.args.label.now c.utf8.label cc in
    let far = YieldsList-so_far all c.loop-letter.yielded _ c.loop-letter.yielded_by in
    let at = YieldsList-turn all c.loop-letter.yielded _ c.loop-letter.yielded_by _ _ c.in-Some.letter c.in-Some.is c.next.ensures.steps in
    is_over c.args.place (chars c.args.label.now) c.loop-letter.yielded c.in-Some.letter c.loop-letter.width (sym (map-id c.loop-letter.yielded) ∙ far) at c.loop-letter.invariant.0 (search rules)

pub returns : goal.returns
returns c =
    let done = YieldsList-end (YieldsList-from_chars c.args.label.now c.utf8.label cc) c.loop-letter.yielded _ c.loop-letter.yielded_by _ _ c.in-None.is c.next.ensures.steps in
    is_under c.args.place (chars c.args.label.now) c.loop-letter.yielded c.loop-letter.width (sym (map-id c.loop-letter.yielded) ∙ done.0) c.loop-letter.invariant
