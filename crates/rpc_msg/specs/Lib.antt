-- The definitions:
-- - `Messages`: the descriptors of a message, and the exports that they count on.
-- - `Paths`: paths into payloads.
-- - `Places`: the places in which a path keeps its steps.
-- - `Vats`: the two vats.
pub mod Messages
pub mod Paths
pub mod Places
pub mod Vats
pub use Rattle.capn_wire.specs.Payloads
pub use Rattle.capn_wire.specs.Walking
pub use Rattle.capn_wire.specs.declared.path.Op
pub use Rattle.capn_wire.specs.declared.path.CapAt
pub use Rattle.capn_wire.specs.declared.faults.Memory
pub use Rattle.capn_wire.specs.contracts.path.OpPartialEq
