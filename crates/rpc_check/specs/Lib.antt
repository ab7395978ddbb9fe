-- The definitions:
-- - `Counts`: counts of exports by id, and what a message on its way adds to them.
-- - `Breaches`: the verdict of a trace: the first entry that breaks one of four laws.
-- - `Kept`: what the fields of a checker say.
-- - `Laws`: what the definitions of the verdict mean.
pub mod Counts
pub mod Breaches
pub mod Kept
pub mod Laws
