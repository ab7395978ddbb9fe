-- The definitions:
-- - `Counts`: questions and Returns among messages.
-- - `Steps`: the law that in each step of a vat each question that comes is returned, or is open then.
-- - `Adapted`: the law that the adapter leaves no question without a Return, and adds none.
-- - `Talks`: talks of a vat with any peer through its adapter, and the law that each question gets one Return.
pub mod Counts
pub mod Steps
pub mod Adapted
pub mod Talks
