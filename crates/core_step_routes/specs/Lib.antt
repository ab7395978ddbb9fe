-- The definitions:
-- - `Fitting`: when the exports have room for a node that is described; and when a call that has to wait can.
-- - `Prepared`: what is made beforehand, so that a call is routed without memory.
pub mod Fitting
pub mod Prepared
