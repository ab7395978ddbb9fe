use Rattle.std.proofs.Common.{ap, arith}
use Rattle.rpc_codec_fits.specs.Carrying.{table_room}
use Rattle.rpc_codec_fits.proofs.lengths.content_fits.Goals as goal

pub returns-clause-room : goal.returns-clause-room
returns-clause-room c = λ yes.
    let is = c.caps.ensures in
    let table = c.table_words-table.ensures.room in
    let same = ap table_room is in
    record { words = c.in-Some.words; fits = c.in-Some.ensures.fits; room = omega (arith, table, same); caps = omega (arith, is) }
