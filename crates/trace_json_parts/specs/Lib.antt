-- The definitions:
-- - `Reading`: reading JSON values in order; a fault ends it.
-- - `ReadParts`: reading the parts of entries and messages.
-- - `ReadMessages`: reading messages.
pub mod Reading
pub mod ReadParts
pub mod ReadMessages
