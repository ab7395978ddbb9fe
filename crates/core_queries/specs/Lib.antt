-- The definitions:
-- - `Places`: where a reference leads, as the application is told; what the peer exports by an id; whose calls wait under an
--   embargo.
-- - `Peers`: which imports and questions are named.
-- - `Sizes`: how many entries each of the four tables has.
-- - `Tasks`: who made the calls that tasks are.
pub mod Places
pub mod Peers
pub mod Sizes
pub mod Tasks
