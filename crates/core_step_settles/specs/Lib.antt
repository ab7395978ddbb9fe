-- The definitions:
-- - `Circles`: how it is found out whether a capability of an outcome leads to itself.
-- - `Ends`: where walks from the capabilities of an outcome end.
-- - `Returning`: a Return in the making: what it says, and what is left when it is sent.
-- - `Unknown`: the outcomes that are not known yet.
-- - `Waiting`: what becomes of the calls that wait for an outcome.
pub mod Circles
pub mod Ends
pub mod Returning
pub mod Unknown
pub mod Waiting
