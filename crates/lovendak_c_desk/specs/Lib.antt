-- The definitions:
-- - `Given`: what numbers and bytes that are given stand for.
-- - `Copies`: what is copied out.
-- - `Desks`: a desk: what each of its calls does, in terms of the connection.
-- - `Notices`: what an event says in numbers, and the bytes and references that come with it.
-- - `Leading`: where a reference leads, in numbers.
-- - `Telling`: the next event is handed out.
-- - `Commands`: commands by numbers and bytes: what comes of each is what comes of the connection's.
-- - `Contents`: payloads made of numbers, a text and capabilities, and looked into.
pub mod Given
pub mod Copies
pub mod Desks
pub mod Leading
pub mod Notices
pub mod Telling
pub mod Commands
pub mod Contents
