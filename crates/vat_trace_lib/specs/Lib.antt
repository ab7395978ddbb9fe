-- The definitions:
-- - `Playing`: what the lines of a script do to two vats and to the script's names.
-- - `Traces`: the trace of a script.
-- - `Words`: the program's words.
-- - `Answers`: what the program prints for a word and an input, and its status.
-- - `Failures`: why the program does not do what it was asked, what it says of it, and its status.
pub mod Playing
pub mod Traces
pub mod Words
pub mod Answers
pub mod Failures
