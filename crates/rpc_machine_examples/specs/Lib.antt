-- What each file works out:
-- - `Given`: words in which states, messages and events are written out.
-- - `OneCall`: a whole run: one call to a bootstrap object, and how all of it goes again, in two orders.
-- - `EarlyFinish`: a whole run: a call finished before its results come, and the call that waits for them.
-- - `Relayed`: a whole run: a call to what an answer will give, which is the caller's own object.
-- - `Across`: a run from two given vats: a promise resolved to the peer's own object, with the Disembargo and its echo.
-- - `BackAndForth`: a run from two given vats: three promises that lead back and forth to the caller's own object, and two
--   turns to a shorter path.
-- - `Promised`: a whole run: an answer that is a promise, its Resolve, and the switch to what it leads to.
-- - `GivenBack`: a whole run: an object that goes with a call, and comes back by a flag or by a Release; its counts.
-- - `GivenTwice`: a whole run: an object that goes with two calls; the flag of the first Return is true, that of the second
--   false; its counts.
-- - `GivenAgain`: a whole run: an object that is released, and given again while the Release is under way; its counts.
-- - `CalledBack`: a whole run: an object that goes twice with one call, is called with itself, and comes back by the flag;
--   its counts.
-- - `LateResolve`: a run from two given vats: a promise that is dropped, and resolved before its Release has come; the
--   counts of both exports.
-- - `OverRelease`: a run from two given vats: a fault, its Abort, and both vats down.
-- - `SingleSteps`, `Shortening`: commands: `reject`, `advance`, `answer`, `finish`; each answer of `advance` that changes
--   something.
-- - `ReceivedSteps`, `Circles`: messages: a late Resolve, an embargo lifted, flags; a Return that gives a call its own
--   result.
-- - `LevelZero`: a level 0 vat: its Returns and Finishes.
-- - `CheckedMessages`: what the checks of messages and commands find.
--
-- What is refused. Each law is said of whole steps and of every state, but for the flags: when they are true is shown at
-- five states, and what they leave is said of the flag alone:
-- - `SteadyPaths`: a call whose path settles at a wire goes to that wire. Proofs: `StoppingAtWires`.
-- - `HeldEmbargoes`: an embargo lasts, with its calls, until its Disembargo comes back; a reference turns back under one;
--   its calls wait there. Proofs: `Keeping`, `KeepingSteps`; `TurningBack`; `WaitingCalls`.
-- - `CountedResolves`: what a Resolve counts on. Proofs: `ImportCounts`.
-- - `TakenQuestions`: how long the id of a question is taken. Proofs: `Keeping`, `KeepingSteps`; `ReturnedQuestions`.
-- - `ExactFlags`: the flags of Returns and Finishes at five states; what a flag leaves; descriptors before the flag.
--   Proofs: `FlaggedReturns`, `FlaggedFinishes`; `SparedImports`; `DescriptorsFirst`.
-- - `FullAnswers`: 4,096 Bootstraps are answered; one that finds the table of answers full takes its vat down. Proofs:
--   `ManyAnswers`; `FullAnswers`.
--
-- How a step is proved: its maps are given by their entries, so `simp maps` (`proofs/StepTools`) computes each look-up in a
-- goal, and what is left is a tuple of choices. What a step owes besides, that nothing goes at its end (`is_quiet`), that
-- it is within the limits (`fits`), that two states have the same entries (`shown`), are tests that compute too.
-- `command_happens`, `message_comes`, `message_faults` and `command_when_down` make an event of a step; `ends_quietly`,
-- `ends_losing_one` and `ends_finishing_one` are the ends of steps. `GivenMaps` has the same for a single look-up.
--
-- Two tools serve any law over whole steps: `EndOfStep` (the end of a step sends only Finishes and Releases, and leaves
-- references, embargoes, exports and answers) and `OnlyEnd` (where nothing is loose and no question is over, there is one
-- end, which changes nothing).

pub mod Given
pub mod OneCall
pub mod EarlyFinish
pub mod Across
pub mod SingleSteps
pub mod ReceivedSteps
pub mod CheckedMessages
pub mod OverRelease
pub mod Relayed
pub mod Circles
pub mod LevelZero
pub mod Shortening
pub mod GivenBack
pub mod SteadyPaths
pub mod HeldEmbargoes
pub mod TakenQuestions
pub mod CountedResolves
pub mod ExactFlags
pub mod Promised
pub mod GivenTwice
pub mod GivenAgain
pub mod CalledBack
pub mod BackAndForth
pub mod FullAnswers
pub mod LateResolve
