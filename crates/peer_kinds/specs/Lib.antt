-- The definitions:
-- - `Kinds`: in which kinds a vat hears the names of exports, and which Resolve it does not hear.
-- - `Laws`: what is heard names each export in one kind, and an envelope that does so is heard as it came; each count is heard or
--   given back.
-- - `Noted`: the kinds that are noted while descriptors are heard one after the other.
-- - `Standings`: how an import stands, by the state of a vat.
pub mod Kinds
pub mod Laws
pub mod Noted
pub mod Standings
