-- What each file says:
-- - `Turns`: three lists of waiting calls, which take the calls in turn.

pub mod Turns
