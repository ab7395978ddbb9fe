mod Aside
mod Cleared
mod Counting
