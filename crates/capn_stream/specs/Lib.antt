-- The definitions:
-- - `Fronts`: what stands at the front of a stream: a whole frame, too little, or a fault.
-- - `Readers`: a reader of a stream: the bytes that wait in it, or the fault for which it failed.
-- - `Streams`: a stream: the bytes that come in, and the frames that go out.
-- - `Laws`: the laws of streams.
pub mod Fronts
pub mod Readers
pub mod Streams
pub mod Laws
