-- The definitions:
-- - `Parts`: a frame of a stream as it comes, and what is kept of it.
-- - `Readers`: a reader of a stream: what is kept of the frame that comes.
-- - `Laws`: what goes out is the fronts of the frames that came in.
pub mod Parts
pub mod Readers
pub mod Laws
