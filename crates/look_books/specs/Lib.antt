-- The definitions:
-- - `Acts`: what a message does to the books.
-- - `Ends`: what the books keep of an end, by ids.
-- - `Checks`: what of a message breaks the protocol, and what is odd, by what both ends said before.
-- - `After`: what is kept behind a message.
pub mod Acts
pub mod Ends
pub mod Checks
pub mod After
