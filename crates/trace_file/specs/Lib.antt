-- The definitions:
-- - `Lines`: the lines of a trace.
-- - `Traces`: what a trace says, and the text that says it.
-- - `Faults`: which line of a text that is no trace is at fault, and how.
-- - `Shown`: what `show` says of a trace.
-- - `Counting`: how one entry changes what is said of a vat's references.
-- - `Verdicts`: how a verdict is said.
pub mod Lines
pub mod Traces
pub mod Faults
pub mod Shown
pub mod Counting
pub mod Verdicts
