-- The definitions:
-- - `Answers`: what a command of any kind answers and does.
-- - `Contents`: what a message carries that gives nothing, or one capability.
-- - `Counting`: what is counted of a core's tables.
-- - `Foreseen`: what can be told of a message of the peer before the core has it.
-- - `Given`: what a step of a core leaves of the runs that lead to it.
-- - `Standing`: a core between its steps.
pub mod Answers
pub mod Contents
pub mod Counting
pub mod Foreseen
pub mod Given
pub mod Standing
