-- What each file says, and the files of proofs/ that prove it:
-- - `OneDesk`: what may be done with one desk, whatever bytes its peer sends, and what is handed out. Proofs: `Reaching`: what a desk does
--   is acts of its connection; `OneDesk`: act by act.
-- - `Served`: which calls such a desk hands out, and what becomes of own calls. Proofs: `Served`.
pub mod OneDesk
pub mod Served
