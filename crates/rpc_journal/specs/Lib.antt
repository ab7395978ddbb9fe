-- The definitions:
-- - `History`: the history of two vats: the calls that were made and delivered, and how they were answered.
-- - `Sources`: where references come from, and what became of own promises, read from the journal alone.
-- - `Meaning`: what references stand for, read from the journal alone.
-- - `OneCall`: the journal of one bootstrapped call, and what its history says.
pub mod History
pub mod Sources
pub mod Meaning
pub mod OneCall
pub use Rattle.rpc_msg as rpc_msg
