-- What each file says (docs/protocol.md, "Questions to a core"):
-- - `Objects`: which objects of the application are named, and how many.
-- - `Results`: which tasks have results that nobody wants.
--
-- Of proofs/:
-- - `Sizes`: a map whose keys are keys of another has no more entries, and the same keys if it has as many.
-- - `NamedObjects`: the objects that are counted are those that are named.

pub mod Objects
pub mod Results
