mod Again
mod Payloads
mod Ladder
