-- The definitions:
-- - `Commands`: what an end may answer to a command.
-- - `Ends`: the ends of two vats, in the words of `link_rings` and `link_sides`.
-- - `Gathered`: two ends that were put side by side.
-- - `Seats`: the seat of a vat, in the words of `link_rings` and `link_sides`.
pub mod Commands
pub mod Ends
pub mod Gathered
pub mod Seats
