use Rattle.rpc_dump_lib.specs.Reading.{held_of, IsOpen, Begun}
use Rattle.rpc_dump_lib.proofs.pieces.dump_pieces.Given as goal

abbrev pub invariant-reads : goal.invariant-reads
invariant-reads g l = record {
  opened : IsOpen l.frames;
  begun : Begun l.form (g.R.Read.remaining l.fn.reader) (g.R.Read.remaining l.reader) (held_of l.frames) l.number (g.W.Write.contents l.fn.out) (g.W.Write.contents l.out);
}
