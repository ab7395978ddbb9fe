-- The definitions; the others are of `link_ends`.
-- - `Works`: an end as its worker uses it.
-- - `Runs`: two ends that were worked.
pub mod Works
pub mod Runs
pub use Rattle.link_ends.specs.Commands
pub use Rattle.link_ends.specs.Ends
pub use Rattle.link_ends.specs.Gathered
pub use Rattle.link_ends.specs.Seats
