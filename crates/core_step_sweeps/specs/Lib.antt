-- The definitions:
-- - `Ending`: a step that makes its Finishes.
-- - `Over`: the questions that are over, by their ids.
-- - `Thinking`: a step that is only thought, to find which questions are over.
-- - `Listed`: keys that have an entry are listed.
pub mod Ending
pub mod Over
pub mod Thinking
pub mod Listed
