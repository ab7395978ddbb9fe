-- The definitions:
-- - `Rooms`: what the code of an end keeps, as what it is seen as, and the room that it keeps so that its vat can go down.
-- - `Sides`: a real vat as a side of a pair on threads.
pub mod Rooms
pub mod Sides
pub use Rattle.core_telling.specs.Answer
pub use Rattle.core_telling.specs.Told
pub use Rattle.core_telling.specs.AnswerRow
