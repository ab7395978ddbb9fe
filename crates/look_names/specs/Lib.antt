-- The definitions:
-- - `Parts`: structs, lists of structs and texts in the tree of a request.
-- - `Names`: the nodes of a request by their ids, and the names of interfaces and methods.
pub mod Parts
pub mod Names
