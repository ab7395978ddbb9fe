mod Telling
mod Stepping
mod Reaching
mod Happened
mod Standing
mod Beginning
