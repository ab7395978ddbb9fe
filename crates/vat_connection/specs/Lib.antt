-- The definitions:
-- - `Calling`: commands: what they give fits into frames, and the reference of a call takes the shorter path before.
-- - `Speaking`: a vat with the bytes that it says: it hears frames, and what it says goes out as frames.
-- - `Framing`: what is in a frame, for the function that opens it: it is given, or the number with which a vat goes down.
-- - `Telling`: what is between for the function that tells the peer all of something or nothing.
-- - `Load`: how much of what the peer sent is held, and how much is allowed.
-- - `Hearing`: bytes that come to a vat, and what waits of them.
-- - `OwnCalls`: own calls that are open: that were made, have not ended and were not let go.
-- - `Connecting`: a connection: what each call of it does.
-- - `Laws`: the laws of connections.
pub mod Calling
pub mod Load
pub mod Speaking
pub mod Framing
pub mod Telling
pub mod Hearing
pub mod OwnCalls
pub mod Connecting
pub mod Laws
