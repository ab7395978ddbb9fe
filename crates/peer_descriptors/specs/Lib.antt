-- What each file says:
-- - `Replacing`: an envelope with other descriptors in the place of its own: those of a Call, of the results of a Return, and of a
--   Resolve.

pub mod Replacing
