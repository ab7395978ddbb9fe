mod Aside
mod Counting
mod Following
mod Settled
