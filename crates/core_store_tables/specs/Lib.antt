-- What each file says:
-- - `Peer`: what changes of the four tables of the connection make of a vat's state.

pub mod Peer
