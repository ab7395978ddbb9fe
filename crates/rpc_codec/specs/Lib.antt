-- The definitions:
-- - `Questions`: `Bootstrap`, `Call` and `Finish`: what is read of them, and the trees that are written.
-- - `Returns`: `Return`: what is read of it, and the tree that is written.
-- - `Exports`: `Resolve`, `Release` and `Disembargo`: what is read of them, and the trees that are written.
-- - `Envelopes`: what a frame says.
-- - `Carried`: what a message carries: its descriptors, and what these add to the count of an export of its sender.
-- - `Decoding`: what the bytes of a frame say, or the first check that fails.
-- - `Headings`: what a frame says of questions, whether or not the rest of it is understood.
-- - `Frames`: the frames that are written.
-- - `Bares`: messages without contents and capabilities, whose words stand in fixed places.
-- - `Laws`: messages that are read back from their frames.
pub mod Questions
pub mod Returns
pub mod Exports
pub mod Envelopes
pub mod Carried
pub mod Decoding
pub mod Headings
pub mod Frames
pub mod Bares
pub mod Laws
