pub mod StaysDown
pub mod Settles
pub mod Following
pub mod ExportCounts
pub mod StepCounts
pub mod Lowering
pub mod MessageCounts
pub mod Idle
