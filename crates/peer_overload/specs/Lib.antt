-- The definitions:
-- - `Laws`: while there is room, the vat hears what came as it came; each count is given once.
-- - `Numbers`: the numbers of the faults.
-- - `Overloading`: what becomes of each envelope of the peer if a vat may have no room for one more answer.
pub mod Laws
pub mod Numbers
pub mod Overloading
