use Rattle.std.proofs.Common.{◌≡◌, List, ap, ◌∙◌}
use Rattle.std.proofs.lemmas.Result.{on_ok_weaker}
use Rattle.rpc_msg.specs.declared.ids.ExportId.{ExportId}
use Rattle.look_books.specs.Ends.{kept_of}
use Rattle.look_books.specs.Checks.{all_given}
use Rattle.look_books.specs.After.{doing, give_back_if, flagged, descriptors_in, returned}
use Rattle.look_books.proofs.Keeping.{back_so, settle_so}
use Rattle.look_books.proofs.take.answer.Goals as goal

pub returns : goal.returns
returns c =
    let n = c.args.moment.number in
    let gives : c.in_ok-gives.gives ≡ all_given (descriptors_in c.args.results) = c.in_ok-gives.ensures ∙ ap all_given c.descriptors_in.ensures in
    on_ok_weaker c.settle.result
    (λ x. (
      back_so n c.flagged.result (flagged c.args.his.finished) c.as_slice.result.now (all_given (descriptors_in c.args.results)) (kept_of c.args.own.now) _ c.flagged.ensures (c.as_slice.ensures ∙ gives) c.in_ok-give_back_if.ensures,
      settle_so c.args.said.question c.with_return.result _ (doing (give_back_if c.args.said.flag n c.args.his.gives) (kept_of c.args.heard.now)) (kept_of c.give_back_if-2.new.self) _
          (c.with_return.ensures ∙ ap (λ (xs : List ExportId). returned c.args.his (record { number = n; waived = c.args.said.waived; gives = xs; results = c.args.results })) gives)
          (c.in_ok-give_back_if-2.ensures ∙ ap (λ (xs : List ExportId). doing (give_back_if c.args.said.flag n xs) (kept_of c.args.heard.now)) c.as_slice-2.ensures)
          x,
    ))
    c.settle.ensures
