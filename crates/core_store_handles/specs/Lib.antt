-- The definitions:
-- - `Changes`: how references change.
-- - `Ends`: what may have to go once the application is not told of a call any more.
pub mod Changes
pub mod Ends
