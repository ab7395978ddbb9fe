-- The definitions:
-- - `InProgress`: a step in progress as the machine has it, and what holds of its parts together.
-- - `Queue`: outcomes that wait to be settled.
pub mod InProgress
pub mod Queue
