-- The definitions:
-- - `Laws`: a message without a broken name is handed on, and each count is given back once.
-- - `Naming`: what becomes of the names of broken promises.
pub mod Laws
pub mod Naming
