use Rattle.vat_joined.specs.Recorded.{on_way}
use Rattle.vat_joined.proofs.Reaching.{begins}
use Rattle.vat_joined.proofs.joined.Joined.new.Goals as goal

pub invariant_of-result : goal.invariant_of-result
invariant_of-result c =
    begins _ c.args.bootstrap_a c.args.bootstrap_b
    (λ i. record {
      joined = record { a = c.in_ok-a.ensures i; b = c.in_ok-b.ensures i; to_a = on_way (c.new-3.ensures i); to_b = on_way (c.new-4.ensures i) };
      journal = c.new-5.ensures.items i;
    })
