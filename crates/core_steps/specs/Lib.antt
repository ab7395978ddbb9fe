-- The definitions:
-- - `Calling`: what a call of the application takes before its step, and when it ends at once.
-- - `Aborts`: a received Abort, and what comes of it alone.
-- - `Undoing`: what `advance` does to a reference, so that it can be put back.
-- - `Whole`: whole steps: a vat between them, and what a command answers.
pub mod Aborts
pub mod Undoing
pub mod Whole
pub use Rattle.core_step_sweeps.specs.Thinking
pub mod Calling
