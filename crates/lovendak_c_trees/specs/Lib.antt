-- The definitions:
-- - `Faults`: why nothing is done.
-- - `Numbers`: numbers of a width, in data words and in lists.
-- - `Contents`: what stands under a number, the tree that it is, and what setting a number or a pointer makes of it.
-- - `Tables`: the contents under their numbers: what each call makes of them, and when it is refused.
-- - `Looks`: payloads are read, and looked into by paths.
-- - `Copies`: what is handed out.
pub mod Faults
pub mod Numbers
pub mod Contents
pub mod Tables
pub mod Copies
pub mod Looks
