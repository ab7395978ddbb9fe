mod Absent
mod Finding
mod HeardGive
mod Holding
mod Longer
mod Nulled
mod Turned
