-- The definitions:
-- - `Failures`: what a program says of a failure that any program may have.
-- - `Texts`: what a reader gives, and why it gives no text.
pub mod Failures
pub mod Texts
