-- What each file says:
-- - `Numbers`: the numbers of faults, whichever crate has them.

pub mod Numbers
