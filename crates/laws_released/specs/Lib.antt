-- What each file says:
-- - `Names`: deliveries are to objects that places name; how an object comes to be named.
-- - `Known`: who keeps a list of objects knows which of them are released.
-- - `Released`: the step that releases an object; what is released stays so until it is hosted, and none is missed.
--
-- The files of proofs/ follow sets of objects: those that places named before the step, and those that the step adds.
-- - `Held`: what the places of a moment name is in the set: lists, tables, what goes out and what comes in.
-- - `Acted`: each small act keeps that. `First`: the first act of a command, and of a message.
-- - `Hosting`: what a Host names is named after its step.
-- - `Steps`: each step, each moment of it, and runs. `Known`: objects that are known, and how many.

pub mod Known
pub mod Names
pub mod Released
