mod Aside
mod Counting
mod Places
mod Waiting
