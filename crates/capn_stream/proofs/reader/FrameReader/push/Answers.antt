use Rattle.std.proofs.Common.{◌≡◌, ℕ, List, Option, Some, None, sym, subst}
use Rattle.capn_trees.specs.declared.faults.PayloadFault.{PayloadFault}
use Rattle.capn_stream.specs.Fronts.{IsHeld, IsShort, front_of}
use Rattle.capn_stream.specs.Readers.{IsWaiting, reader_of}
use Rattle.capn_stream.proofs.Stable.{held_none}
use Rattle.capn_stream.proofs.Filling.{filled_some}
use Rattle.capn_stream.proofs.reader.FrameReader.push.Goals as goal

pub invariant_of-self-in-Err-Fault : goal.invariant_of-self-in-Err-Fault
invariant_of-self-in-Err-Fault c = subst IsHeld (sym c.new.ensures.items) held_none

short_of : (held : List ℕ) (fault : Option PayloadFault) → fault ≡ None → IsWaiting (reader_of held fault) → IsShort (front_of held)
short_of held None none waits = waits
short_of held (Some fault) none waits = cc

pub returns-in-Ok-clause-some : goal.returns-in-Ok-clause-some
returns-in-Ok-clause-some c waits some =
    let short = short_of c.self.inside.bytes.items c.self.inside.fault c.in_default.is (subst IsWaiting (sym c.self.view_is) waits) in
    filled_some c.self.inside.bytes.items c.args.piece.now c.fill.new.bytes.items c.in-Ok.taken c.in-Ok.ensures.filled c.self.invariant short some
