-- The definitions:
-- - `Notes`: what a command writes of itself, as it is noted before its step.
-- - `Told`: what is told of a step, and written of it.
pub mod Notes
pub mod Told
pub use Rattle.vat_core.specs.Answers
pub use Rattle.vat_core.specs.declared.commands.Answer
pub use Rattle.vat_core.specs.contracts.commands.Answer as AnswerRow
