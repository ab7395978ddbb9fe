-- The definitions:
-- - `Exchanging`: two hosts exchange their messages.
-- - `Hosting`: a core with what its steps left to do, and what each call does to both.
-- - `Objects`: the objects that an application hosts, as a host keeps them.
-- - `Queues`: lists and events that wait, what is told of a step, and the room that its effects need.
-- - `Unanswered`: the calls of the peer that no Return answered, and which of them are over.
-- - `Watching`: what a message of the peer makes known to the application, beside calls.
pub mod Exchanging
pub mod Hosting
pub mod Objects
pub mod Queues
pub mod Unanswered
pub mod Watching
