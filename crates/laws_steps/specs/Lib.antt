-- What each file says:
-- - `Numbers`: numbers only rise, and none is used twice.
-- - `Settled`: what is settled says the same, and a node leads where it led.
-- - `NodesThere`: the states to which a vat comes; nodes that places name are there, and imports are named.
-- - `Callers`: what a call and an answer wait for is there.
-- - `Room`: room for a Call's capabilities is found exactly.
--
-- What is said of numbers (`UsedOnce`), of promises and outcomes that are settled (`SaysTheSame`), and of outcomes that
-- arise (`Exceptions`) is proved by small acts of `laws_acts`. Of a moment either nothing has gone yet, and all that is to
-- become known but the first is an exception; or all of it is. So a key is never taken where one of before the step went:
-- an exception takes none. The nodes that entries name have a walk of their own, with what each change needs (`Among`,
-- `NamedNodes`, `HeldQuestions`, `NamedPieces`, `NamedSteps`, `Taken`, `NamedMessages`, `Reached`): its invariant also says
-- that an open outcome of the peer has its answer, which was not returned, that an answer has its outcome and a call its
-- question or outcome, that a level 0 vat has no imports, that an import's count is above 0, and that a returned question
-- names each import as often as its Return has that id. Which questions are held is a value beside the state, so that it
-- can be the old one while questions are closed. Three files have what is hard there: `GivenBack` counts places, to show
-- that a flag gives back no import that is still named; `Below` compares two states of which one is what is left of the
-- other; `Swept` shows with it that no place names a Pipe of a question that was closed. `LeadsOn` has what follows for
-- where nodes lead. `Kept`: what a new vat has, and each step and fall leaves, each state has to which a vat comes.

pub mod Numbers
pub mod Settled
pub mod Callers
pub mod NodesThere
pub mod Room
