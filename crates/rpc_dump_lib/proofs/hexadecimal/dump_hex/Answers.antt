use Rattle.std.proofs.Common.{refl}
use Rattle.std.proofs.lemmas.Result.{err_from_is_err_and}
use Rattle.rpc_dump_lib.specs.Conversations.{IsLines, LinesStop, digits_line}
use Rattle.rpc_dump_lib.proofs.Inputs.{nothing_said, lines_lost}
use Rattle.rpc_dump_lib.proofs.hexadecimal.dump_hex.Goals as goal

pub returns-in_err-input : goal.returns-in_err-input
returns-in_err-input g c =
    let p = err_from_is_err_and c.from_residual.result c.from_residual.ensures.1 in
    let why = c.in_err-input.field-0.0 in
    rw (p.1, p.2)
    (nothing_said {IsCut = IsLines} {line = digits_line c.args.form.now} {Stops = LinesStop} (g.R.Read.remaining c.args.reader.now) (g.W.Write.contents c.args.out.now) why (λ input. refl) (λ rest. lines_lost rest 1 why c.in_err-input.ensures.fails))
