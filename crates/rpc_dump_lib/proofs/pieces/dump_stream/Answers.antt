use Rattle.std.proofs.Common.{refl}
use Rattle.std.proofs.lemmas.Result.{err_from_is_err_and}
use Rattle.capn_stream.specs.Streams.{IsSplit}
use Rattle.program_files.specs.declared.fault.ProgramFailure.TheVariants as program
use Rattle.rpc_dump_lib.specs.declared.failure.Failure.TheVariants as failure
use Rattle.rpc_dump_lib.specs.Conversations.{StreamStops, frame_line}
use Rattle.rpc_dump_lib.proofs.Inputs.{nothing_said}
use Rattle.rpc_dump_lib.proofs.pieces.dump_stream.Goals as goal

pub returns-in_err-room : goal.returns-in_err-room
returns-in_err-room g c =
    let p = err_from_is_err_and c.from_residual.result c.from_residual.ensures.1 in
    rw (p.1, p.2)
    (nothing_said {IsCut = IsSplit} {line = frame_line c.args.form.now} {Stops = StreamStops} (g.R.Read.remaining c.args.reader.now) (g.W.Write.contents c.args.out.now) (failure.Program program.Memory) (λ input. record { whole = tt; joined = refl }) (λ rest. tt))
