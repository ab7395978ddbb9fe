-- The definitions:
-- - `Laws`: a peer that needs none of it is heard as it is; each count is heard, owed or given back.
-- - `Numbers`: the numbers of an adapter's faults.
-- - `Peering`: what stands between a peer of another make and a vat.
pub mod Laws
pub mod Numbers
pub mod Peering
