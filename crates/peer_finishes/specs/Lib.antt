-- The definitions:
-- - `Finishing`: when a Finish goes.
-- - `Laws`: each Finish goes once, behind the Return of its question or at once, and all else goes in its place.
pub mod Finishing
pub mod Laws
