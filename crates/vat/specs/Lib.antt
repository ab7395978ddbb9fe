-- What each file says:
-- - `Explaining`: which reference, call, task or promise a refusal is about.

pub mod Explaining
