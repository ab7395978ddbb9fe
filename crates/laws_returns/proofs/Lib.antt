mod Returning
mod Stepping
mod Waiting
mod Answering
mod Adapting
mod Talking
