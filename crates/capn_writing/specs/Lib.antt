-- The definitions:
-- - `Fitting`: what the types of a program's tree say of its numbers.
-- - `Laying`: where a writer may lay words down.
-- - `Placing`: what is laid down for a tree, in one segment.
pub mod Fitting
pub mod Laying
pub mod Placing
