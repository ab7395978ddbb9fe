-- The definitions:
-- - `Limits`: the limits on a message, and on what reading it visits.
-- - `Measuring`: what is found in the parts of a tree, each looked at once.
-- - `Numbers`: the numbers of the faults, in the order in which their checks stand.
-- - `Trees`: what a payload says: structs, lists and capabilities, without where they lie in memory.
-- - `Views`: the tree that a `Tree` of the program stands for.
-- - `Widths`: the sizes of elements without pointers.
-- - `Writable`: when a tree can't be written, and why.
pub mod Limits
pub mod Measuring
pub mod Numbers
pub mod Trees
pub mod Views
pub mod Widths
pub mod Writable
