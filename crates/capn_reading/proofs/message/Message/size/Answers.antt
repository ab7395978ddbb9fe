use Rattle.std.proofs.Common.{◌≡◌, slice_index_or, subst, sym, Some, ℕ, List}
use Rattle.capn_reading.specs.Segments.{size_of}
use Rattle.capn_reading.proofs.Spanned.{size_of-spanned}
use Rattle.capn_reading.proofs.message.Message.size.Goals as goal

pub returns-clause-size : goal.returns-clause-size
returns-clause-size c =
    let a = c.self.inside in
    subst (λ (m : List (List ℕ)). Some (slice_index_or a.spans c.args.segment (record { start = 0; size = 0 })).size ≡ size_of m c.args.segment) c.self.view_is
    (sym (size_of-spanned a.bytes.now a.count c.args.segment a.spans (record { start = 0; size = 0 }) c.self.invariant.few c.if-segment-self.false))
