-- The definitions:
-- - `Choices`: what the options of the program say.
-- - `Arrows`: which arrows a picture has.
-- - `Failures`: what the program says of a failure, and where help is asked for.
pub mod Choices
pub mod Arrows
pub mod Failures
