-- The definitions:
-- - `Choices`: what the options of the program say.
-- - `Drawn`: where the program draws.
-- - `Failures`: why the program does not draw, what it says of it, and its status.
pub mod Choices
pub mod Drawn
pub mod Failures
