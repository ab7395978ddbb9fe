use Rattle.std.proofs.Common.{ℕ, ◌+◌, take, get_or, cond, nat_eq, sym, ap, ◌∙◌}
use Rattle.rpc_msg.specs.declared.ids.ExportId.{ExportId}
use Rattle.look_books.specs.Ends.{kept_of}
use Rattle.look_books.proofs.Finding.{leaves_all}
use Rattle.look_books.proofs.Giving.{same_item, times_next, back_more, back_all}
use Rattle.look_books.proofs.returning.too_many_of.Goals as goal

abbrev none : ExportId
none = record { 0 = 0 }

pub loop-export-init : goal.loop-export-init
loop-export-init c = (λ k. c.new-gone.ensures k, leaves_all _ _)

pub loop-export-preserved : goal.loop-export-preserved
loop-export-preserved c =
    let xs = c.args.exports.now in
    let i = c.loop-export.export-index in
    let lt = c.loop-export-test.true in (
      λ k. c.in_ok-add-2.ensures k ∙ ap (λ (n : ℕ). n + cond (nat_eq k (get_or xs i none).0) 1 0) (c.loop-export.invariant.0 k) ∙ sym (times_next k xs i none lt),
      back_more (kept_of c.args.heard.now) c.args.by xs i (get_or xs i none) c.of.result c.none_left.result lt (same_item xs i none lt) c.loop-export.invariant.1
          (c.of.ensures ∙ c.loop-export.invariant.0 (get_or xs i none).0) c.none_left.ensures c.in_ok-add.ensures,
    )

pub returns : goal.returns
returns c = back_all (kept_of c.args.heard.now) c.args.by (take c.loop-export.export-index c.args.exports.now) c.args.exports.now c.loop-export.export-index c.loop-export-test.false c.loop-export.invariant.1
