-- The definitions:
-- - `Alike`: the law that between two vats each message is heard as it came.
-- - `Fits`: the law that what any peer names is heard without a fault of kinds, until a Resolve of it came.
pub mod Alike
pub mod Fits
