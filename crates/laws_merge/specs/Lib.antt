-- The definitions:
-- - `Machine`: the pair machine: two sides with a state each, and the messages on their way between them.
-- - `Logs`: the logs of the two sides, and when they fit.
-- - `Merge`: the merge of two logs, over entries of any kind.
-- - `Laws`: what is promised of two logs.
-- - `Crossing`: two logs that only the check of acks refuses.
pub mod Machine
pub mod Logs
pub mod Merge
pub mod Laws
pub mod Crossing
