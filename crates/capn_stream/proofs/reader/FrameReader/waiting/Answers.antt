use Rattle.std.proofs.Common.{◌≡◌, ◌<◌, ◌+◌, ◌*◌, ℕ, List, length, Option, Some, None, false, sym, subst, arith}
use Rattle.std.specs.Option.{is_some}
use Rattle.capn_trees.specs.declared.faults.PayloadFault.{PayloadFault}
use Rattle.capn_stream.specs.Fronts.{IsHeld}
use Rattle.capn_stream.specs.Readers.{IsWaiting, reader_of}
use Rattle.capn_stream.proofs.Stable.{held_few, short_fewer}
use Rattle.capn_stream.proofs.reader.FrameReader.waiting.Goals as goal

pub returns-clause-most : goal.returns-clause-most
returns-clause-most c = let h = held_few c.self.inside.bytes.items c.self.invariant in omega arith

fewer : (held : List ℕ) (fault : Option PayloadFault) → false ≡ is_some fault → IsHeld held → IsWaiting (reader_of held fault) → length held < 72 + 8 * 65536
fewer held None none is waits = short_fewer held is waits
fewer held (Some fault) none is waits = absurd cc

pub returns-clause-fewer : goal.returns-clause-fewer
returns-clause-fewer c waits =
    let less = fewer c.self.inside.bytes.items c.self.inside.fault c.if-is_some.ensures c.self.invariant (subst IsWaiting (sym c.self.view_is) waits) in
    omega arith
