-- The definitions:
-- - `Numbers`: the numbers of the faults of envelopes.
-- - `Reading`: reading the parts of an envelope; the first check that fails ends it.
-- - `Blocks`: the structs of an envelope, with what is past their ends.
-- - `Targets`: `MessageTarget` and `PromisedAnswer`: what is read of them, and the trees that are written.
-- - `Descriptors`: `CapDescriptor`: what is read of it, and the tree that is written.
-- - `Exceptions`: `Exception`: what is read of it, and the tree that is written.
-- - `Payloads`: `Payload`: what is read of it, and the tree that is written.
-- - `Fitting`: what each value of the types has by itself, such as numbers within their widths.
pub mod Numbers
pub mod Reading
pub mod Blocks
pub mod Targets
pub mod Descriptors
pub mod Exceptions
pub mod Payloads
pub mod Fitting
