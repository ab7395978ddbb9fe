use Rattle.std.proofs.Common.{◌≡◌, ℕ, [], take, Ok, ap, arith}
use Rattle.std.proofs.lemmas.Result.{err_from_is_err_and}
use Rattle.program_files.specs.declared.fault.ProgramFailure.TheVariants as program
use Rattle.rpc_dump_lib.specs.declared.failure.Failure.TheVariants as failure
use Rattle.rpc_dump_lib.specs.Reading.{held_of}
use Rattle.rpc_dump_lib.proofs.Inputs.{stream_lost, begun_none, open_none, begun_stops, begun_more, begun_ends, begun_done}
use Rattle.rpc_dump_lib.proofs.pieces.dump_pieces.Goals as goal

pub reads-init : goal.reads-init
reads-init g c = record {
  opened = open_none c.new-frames.result c.new-frames.ensures;
  begun = begun_none c.args.form.now (g.R.Read.remaining c.args.reader.now) (g.W.Write.contents c.args.out.now) c.new-frames.result c.new-frames.ensures;
}

pub returns-in_err-count : goal.returns-in_err-count
returns-in_err-count g c =
    let p = err_from_is_err_and c.from_residual.result c.from_residual.ensures.1 in
    let why = c.in_err-count.field-0.0 in
    rw (p.1, p.2)
    (begun_stops c.args.form.now (g.R.Read.remaining c.args.reader.now) (g.R.Read.remaining c.reads.reader) (held_of c.reads.frames) c.reads.number (g.W.Write.contents c.args.out.now) (g.W.Write.contents c.reads.out) c.reads.invariant.begun
    why (λ rest. stream_lost rest c.reads.number why c.in_err-count.ensures.fails))

pub returns-then-count-eq0 : goal.returns-then-count-eq0
returns-then-count-eq0 g c =
    let none : take c.in_ok-count.count c.read_some.new.room ≡ [] = ap (λ (n : ℕ). take n c.read_some.new.room) c.if-count-eq0.true in
    begun_done c.args.form.now (g.R.Read.remaining c.args.reader.now) (g.R.Read.remaining c.reads.reader) (held_of c.reads.frames) c.reads.number (g.W.Write.contents c.args.out.now) (g.W.Write.contents c.reads.out) c.reads.invariant.begun
    (take c.in_ok-count.count c.read_some.new.room) (g.R.Read.remaining c.read_some.new.reader) c.end.result none c.in_ok-count.ensures.came (c.in_ok-count.ensures.end (omega arith) (ap Ok c.if-count-eq0.true)) c.end.ensures.whole c.end.ensures.fails

pub returns-in_err-number : goal.returns-in_err-number
returns-in_err-number g c =
    let p = err_from_is_err_and c.from_residual-in_err-number.result c.from_residual-in_err-number.ensures.1 in
    rw (p.1, p.2)
    (begun_ends c.args.form.now (g.R.Read.remaining c.args.reader.now) (g.R.Read.remaining c.reads.reader) (held_of c.reads.frames) c.reads.number (g.W.Write.contents c.args.out.now) (g.W.Write.contents c.reads.out) c.reads.invariant.begun
    (take c.in_ok-count.count c.read_some.new.room) (held_of c.dump_piece.new.frames) (g.R.Read.remaining c.read_some.new.reader) (g.W.Write.contents c.dump_piece.new.out) c.in_err-number.field-0.0
    c.in_ok-count.ensures.came (λ input rest. c.in_err-number.ensures.said input rest (g.W.Write.contents c.args.out.now)))

pub reads-preserved : goal.reads-preserved
reads-preserved g c =
    record {
      opened = c.in_ok-number.ensures.opened;
      begun = begun_more c.args.form.now (g.R.Read.remaining c.args.reader.now) (g.R.Read.remaining c.reads.reader) (held_of c.reads.frames) c.reads.number (g.W.Write.contents c.args.out.now) (g.W.Write.contents c.reads.out) c.reads.invariant.begun
          (take c.in_ok-count.count c.read_some.new.room) (held_of c.dump_piece.new.frames) c.in_ok-number.number (g.R.Read.remaining c.read_some.new.reader) (g.W.Write.contents c.dump_piece.new.out)
          c.in_ok-count.ensures.came (λ input rest. c.in_ok-number.ensures.said input rest (g.W.Write.contents c.args.out.now));
    }

pub returns : goal.returns
returns g c =
    begun_stops c.args.form.now (g.R.Read.remaining c.args.reader.now) (g.R.Read.remaining c.reads.reader) (held_of c.reads.frames) c.reads.number (g.W.Write.contents c.args.out.now) (g.W.Write.contents c.reads.out) c.reads.invariant.begun
    (failure.Program program.Unreadable) (λ rest. tt)
