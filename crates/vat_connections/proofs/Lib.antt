pub mod Counts
pub mod Downs
pub mod Moving
pub mod Numbers
pub mod OneConnection
pub mod Released
pub mod Served
pub mod Working
