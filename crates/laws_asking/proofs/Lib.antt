mod Among
mod Along
mod Asking
mod Placed
mod Stepping
mod Bounded
mod Hearing
