pub mod CallParts
pub mod Counting
pub mod FaultParts
pub mod InTurn
pub mod OneMore
pub mod Outgoing
pub mod Turning
pub mod Wires
