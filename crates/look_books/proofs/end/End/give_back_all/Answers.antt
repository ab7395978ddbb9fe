use Rattle.std.proofs.Common.{refl, get_or}
use Rattle.rpc_msg.specs.declared.ids.ExportId.{ExportId}
use Rattle.look_books.specs.Ends.{kept_of}
use Rattle.look_books.proofs.Giving.{same_item}
use Rattle.look_books.proofs.Keeping.{back_more, back_all}
use Rattle.look_books.proofs.end.End.give_back_all.Goals as goal

abbrev none : ExportId
none = record { 0 = 0 }

pub loop-export-init : goal.loop-export-init
loop-export-init c = refl

pub loop-export-preserved : goal.loop-export-preserved
loop-export-preserved c =
    let xs = c.args.exports.now in
    let i = c.loop-export.export-index in
    back_more c.args.number xs i (get_or xs i none) _ (kept_of c.loop-export.self) _ c.loop-export-test.true (same_item xs i none c.loop-export-test.true) c.loop-export.invariant c.in_ok-give_back.ensures

pub returns : goal.returns
returns c = back_all c.args.number c.args.exports.now c.loop-export.export-index _ (kept_of c.loop-export.self) c.loop-export-test.false c.loop-export.invariant
