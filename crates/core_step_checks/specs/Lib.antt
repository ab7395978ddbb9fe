-- The definitions:
-- - `Laws`: how the parts of the checks make up the machine's refusals and faults.
-- - `Parts`: the fault of a received message in its parts, as they are checked.
-- - `Rooms`: the room that a call needs, but for that in the exports, and that in the exports.
-- - `Sending`: what goes out of a vat with references, whose nodes are named one after the other.
-- - `Counted`: how often nodes go out, as it is counted.
-- - `Wires`: what is known of a wire, as the machine says it.
pub mod Laws
pub mod Parts
pub mod Rooms
pub mod Sending
pub mod Counted
pub mod Wires
