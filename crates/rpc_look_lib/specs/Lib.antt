-- The definitions:
-- - `Status`: the status with which the program ends, and which failure a fault of a log is.
-- - `Watching`: what a frame is, and what is to be said of it by the frames before it.
-- - `Talking`: a conversation so far, of which frames come one after the other.
-- - `Streams`: the bytes of one end, of which parts come.
-- - `Capturing`: a conversation of which pieces come.
-- - `Reading`: a log, line by line.
-- - `Weaving`: two files, without an order between them.
pub mod Status
pub mod Watching
pub mod Talking
pub mod Streams
pub mod Capturing
pub mod Reading
pub mod Weaving
