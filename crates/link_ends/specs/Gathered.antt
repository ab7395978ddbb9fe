-- Two ends that were put side by side.
use Rattle.link_logs.specs.Promises.{Pair}
use Rattle.link_ends.specs.Ends.{VatEnded}

-- Their own vats and logs.
abbrev pub both_of : VatEnded → VatEnded → Pair
both_of a b = record { start_a = a.start; side_a = a.side; log_a = a.log; start_b = b.start; side_b = b.side; log_b = b.log }
