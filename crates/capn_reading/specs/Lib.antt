-- The definitions:
-- - `Following`: what a pointer leads to.
-- - `Framing`: a message in framed segments, as its bytes say.
-- - `Index`: where a message's segments lie in its bytes.
-- - `Layouts`: where a content lies, and of what it consists.
-- - `Looking`: what stands at a place of a message, by its tree.
-- - `Pointers`: what a word says where a pointer stands.
-- - `Reading`: the tree that a pointer leads to, with the visited words after it, or the first check that fails.
-- - `Segments`: the segments of a message, and the words in their bytes.
pub mod Following
pub mod Framing
pub mod Index
pub mod Layouts
pub mod Looking
pub mod Pointers
pub mod Reading
pub mod Segments
