-- The definitions:
-- - `Pairs`: two vats as `pair` begins with them, and the journal that it prints.
-- - `Judged`: which fault a script has, by how the work of both vats ended.
-- - `Printed`: the trace of a script for two threads.
-- - `Answers`: what the program prints for the word `pair`, with which status, and why it doesn't.
pub mod Pairs
pub mod Judged
pub mod Printed
pub mod Answers
