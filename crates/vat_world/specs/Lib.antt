-- The definitions:
-- - `Stages`: the step of one vat: it, the messages to its peer, and the journal.
-- - `Rooms`: what the world's code keeps, as what it is seen as, and the room that it keeps so that two vats can go down.
-- - `World`: two vats with their journal: what an event does, and what every such world is.
pub mod Stages
pub mod Rooms
pub mod World
pub use Rattle.core_telling.specs.Answer
