-- What each file says:
-- - `Carrying`: the messages that carry to the peer what a command gives, and the room that they have for it.

pub mod Carrying
