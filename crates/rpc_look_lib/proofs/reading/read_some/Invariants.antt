use Rattle.std.specs.Io.KnownBytes.{Keeps}
use Rattle.rpc_look_lib.proofs.reading.read_some.Given as goal

-- nothing came
abbrev pub invariant-tries : goal.invariant-tries
invariant-tries g l = Keeps (g.R.Read.remaining l.fn.reader) (g.R.Read.remaining l.reader)
