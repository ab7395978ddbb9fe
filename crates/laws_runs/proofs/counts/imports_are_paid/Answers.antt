use Rattle.laws_runs.proofs.Got.{took_one}
use Rattle.laws_runs.proofs.Paid as pays
use Rattle.laws_runs.proofs.counts.imports_are_paid.Goals as goal

pub returns : goal.returns
returns c = record { acts = λ last d list r i a. pays.acts last d r i a list; consumes = λ m d first h r i n k. took_one m d first r i n k h }
