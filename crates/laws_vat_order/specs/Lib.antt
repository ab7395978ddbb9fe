-- What each file says:
-- - `Lines`: calls that wait in one line, and which of them stands ahead.
-- - `Order`: a call waits once, none passes another, and each follows where its node leads.
-- - `Arriving`: the calls that the peer aims at one target keep their order.
-- - `Making`: the calls that the application makes through one reference keep theirs.
--
-- The files of proofs/:
-- - `Counting`: at how many places a call waits. `Lists`: calls in lists, and lists in tables.
-- - `Sending`: which calls go out in a step. `Moving`: how two calls in one line move on, act by act. `Steps`: each step,
--   for two calls.
-- - `Tracking`: where a call waits that waited at an open node. `Following`: each step, for one call.
-- - `Arriving`: calls that come, and many steps.
-- - `Heads`: embargoes are of the heads of their references. `Staying`: what small acts leave as it is. `Making`: a call stays
--   in the line of its reference. `Made`: calls that are made, and many steps.

pub mod Lines
pub mod Order
pub mod Arriving
pub mod Making
