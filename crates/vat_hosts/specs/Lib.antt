-- What each file says, and the files of proofs/ that prove it:
-- - `Calls`: what an application is told of calls. Proofs: `Calls`; `Known`: what a message makes known.
-- - `Hosts`: two hosts whose messages are handed over: what may be done with them, and what their applications did and were told.
-- - `Worlds`: two hosts are two vats in one world. Proofs: `Sides`: one of them, and what is on its way to it; `Worlds`: both.
-- - `Exchanges`: to exchange messages is to hand them over. Proofs: `Carried`.
-- - `OneHost`: what may be done with one host, whatever its peer sends, and what its application is told. Proofs: `OneHost`.
-- - `Served`: which calls such a host has served, and that own calls end once. Proofs: `Served`.
-- - `Released`: what such a host told as released. Proofs: `Released`.
-- - `Cancelled`: what such a host told as cancelled. Proofs: `OpenTasks`: what holds of tasks in each state; `Unanswered`: what a host
--   keeps of calls, list by list; `Following`: a step; `Cancelled`: act by act.

pub mod Calls
pub mod Cancelled
pub mod Exchanges
pub mod Hosts
pub mod OneHost
pub mod Released
pub mod Served
pub mod Worlds
