-- The definitions:
-- - `Words`: what the program's words ask for.
-- - `Trees`: the tree of a payload as JSON.
-- - `Lines`: what a frame says, as JSON. `Named`: its line, with the names of a schema.
-- - `Conversations`: what is said of a captured conversation.
-- - `Reading`: a stream that is said while its bytes come.
-- - `Failures`: what is said of a failure, and the status with which the program ends.
pub mod Words
pub mod Trees
pub mod Lines
pub mod Named
pub mod Conversations
pub mod Reading
pub mod Failures
