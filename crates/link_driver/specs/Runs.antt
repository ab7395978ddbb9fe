-- Two ends that were worked (docs/threads.md).
use Rattle.std.specs.Prelude.{◌≡◌, List}
use Rattle.rpc_msg.specs.declared.ids.Vat.TheVariants.{A, B}
use Rattle.script_language.specs.declared.line.Line.{Line}
use Rattle.link_workers.specs.declared.worker_end.WorkerEnd.{WorkerEnd}
use Rattle.link_workers.specs.Ending.{IsEnding}
use Rattle.link_sides.specs.Sides.{down_by}
use Rattle.link_logs.specs.Promises.{Pair}
use Rattle.link_ends.specs.Ends.{VatEnded}
use Rattle.link_ends.specs.Gathered.{both_of}
use Rattle.link_driver.specs.Works.{IsLater, StepsBy}

-- The vats and logs of the same two ends, as they are later, worked by these lines until their work ended so. Each log begins
-- with what it had before.
pub record AreWorked (a b : VatEnded) (lines : List Line) (why_a why_b : WorkerEnd) (both : Pair) : Type 0 where
  pub worked_a : VatEnded
  pub worked_b : VatEnded
  pub later_a : IsLater a worked_a
  pub later_b : IsLater b worked_b
  pub ending_a : IsEnding StepsBy A lines a worked_a (down_by worked_a.side) why_a
  pub ending_b : IsEnding StepsBy B lines b worked_b (down_by worked_b.side) why_b
  pub gathered : both ≡ both_of worked_a worked_b
