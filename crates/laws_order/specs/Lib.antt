-- The definitions:
-- - `Decisions`: whether two values are the same, of numbers, lists of numbers, and all that such lists can say.
-- - `Machine`: the machine of routes: two vats, the nodes at which calls arrive, references, and the messages between the vats.
-- - `Routing`: how a call that stands at a node of its own vat goes on.
-- - `Routes`: the route from a stop: over its exit to the next stop, and so on.
-- - `Events`: what may happen, when it may, and what it leaves.
-- - `Order`: what is promised of the calls of a reference.
-- - `Invariant`: what holds at every moment, from which the promise follows.
-- - `Laws`: what the contracts of this crate say, each of every machine.
-- - `Moves`: the machine in smaller steps than its events.
-- - `Places`: the names of the machine of routes for a vat pair.
-- - `Runs`: runs of the machine of routes, worked out.
-- - `Carried`: how a crate that runs beside the machine uses the invariant.
pub mod Decisions
pub mod Machine
pub mod Routing
pub mod Routes
pub mod Events
pub mod Order
pub mod Invariant
pub mod Laws
pub mod Moves
pub mod Places
pub mod Runs
pub mod Carried
