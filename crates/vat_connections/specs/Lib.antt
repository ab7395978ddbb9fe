-- What each file says, and the files of proofs/ that prove it:
-- - `OneConnection`: what may be done with one connection, whatever bytes its peer sends, and what its application is told. Proofs:
--   `Working`: what a connection does by itself is acts of its host; `Downs`: a vat that is down.
-- - `Served`: which calls such a connection has served, and what becomes of own calls. Proofs: `Numbers`: the numbers of calls in a run;
--   `Counts`: how often a call stands among those that are open; `Moving`: one act; `OneConnection`: act by act; `Served`.
-- - `Released`: what such a connection told as released it has not served until it is hosted again. Proofs: `Released`.
pub mod OneConnection
pub mod Released
pub mod Served
