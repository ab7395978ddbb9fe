use Rattle.std.proofs.Common.{◌<◌, length, refl, sym, ap, ◌∙◌, arith}
use Rattle.std.specs.List.{before_first, after_first}
use Rattle.std.proofs.lemmas.Bool.Decides.{nat_tests}
use Rattle.rpc_dump_lib.specs.Conversations.{IsLines, digits_line, is_newline}
use Rattle.rpc_dump_lib.proofs.Parts.{said_none, said_more, line_cut}
use Rattle.rpc_dump_lib.proofs.hexadecimal.say_lines.Goals as goal

pub lines-init : goal.lines-init
lines-init g c = said_none c.args.input.now (g.W.Write.contents c.args.out.now) refl

pub lines-preserved : goal.lines-preserved
lines-preserved g c =
    let rest = c.lines.rest.now in
    let said = c.in_ok-say_digits.ensures.said in
    let some : 0 < length rest = grind (arith, nat_tests) in
    rw c.split_line.ensures.left
    (said_more {IsCut = IsLines c.args.input.now} {line = digits_line c.args.form.now} (before_first is_newline rest) rest (after_first is_newline rest) said.0 c.lines.number c.saturating_add-number.result
    (g.W.Write.contents c.args.out.now) (g.W.Write.contents c.lines.out) (g.W.Write.contents c.say_digits.new.out)
    (λ parts. line_cut c.args.input.now rest parts some) (ap (digits_line c.args.form.now) (sym c.split_line.ensures.line) ∙ said.1) said.2 c.saturating_add-number.ensures c.lines.invariant)
