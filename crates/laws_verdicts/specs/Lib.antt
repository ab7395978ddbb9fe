-- How its laws are proved stands in docs/laws.md ("The verdict of a journal"). `Recorded` says which journals two new vats write,
-- with counts noted anywhere among their entries, and `Good` what the verdict says of these.
--
-- In proofs/: `Walking`: entries that break no law, one after the other; what is kept by each event and each noting. `Events`: what an
-- event writes, and what it leaves. `Reached`, `Runs`: without what was noted such a journal is a run's, and each run's is one.
-- `Orders`: calls in order and at one place. `Saying`, `Links`, `Quiet`: what the check reads of entries; what is on a link is what the
-- journal shows as sent and not received; a message for each receipt, and nothing done after going down. `Tabled`, `LastSaid`,
-- `Matched`, `Noting`: what is noted is what the tables hold; what the last question and answer of an id handed on; what messages on
-- their way hand on and release; counts that agree. `Heads`, `Verdicts`: a head in front changes nothing; the verdict.
pub mod Recorded
pub mod Good
