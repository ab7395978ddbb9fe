-- What each file says, and the files of proofs/ that prove it:
-- - `TaskSteps`: what a step does to tasks, to the outcomes that the peer waits for and to its answers. Proofs: `Holding`: tasks and
--   outcomes, act by act; `Owing`: answers and Returns; `Coming`: what a message that is no fault finds; `Keeping`: each step.

pub mod TaskSteps
