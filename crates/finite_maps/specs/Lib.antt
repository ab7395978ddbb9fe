-- What each file says:
-- - `Tally`: sums over the entries of a map from numbers, and the map with other values under the same keys.

pub mod Tally
