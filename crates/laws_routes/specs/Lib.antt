-- What each file says:
-- - `Points`: the points of the routes of two vats, and the machine over them.
-- - `Ghosts`: which point a vat's node is: identities of promises, outcomes and sessions, and what imports stand for.
-- - `Sides`: what one vat and the machine have to do with one another: stops, references, embargoes, lists, identities.
-- - `Views`: what a vat's wires are at the other vat, and how a link is read.
-- - `Ties`: the whole relation of two vats, one of them in the middle of a step, to a state of the machine.
-- - `Sayings`: what was said of wires, by Resolves and Returns, is so.
-- - `Named`: what is known, and what messages on their way say, names.
-- - `Premises`: what the laws take as known of a vat and of what is on its way.
-- - `Midway`, `WholeSteps`, `Between`: one record of the middle of a step from which most of that follows; pieces of a step
--   and whole steps keep it; between steps it is what is so of each vat alone, and across.
-- - `FirstActs`, `Received`, `Embargoes`: first acts of commands and of received messages keep that record, and what is
--   taken as known of a message; what is so of the embargoes of a vat alone.
-- - `Laws`, `OutcomeLaws`, `MessageLaws`, `QuietLaws`, `SayingLaws` with `KnownLaws`, `MakingLaws`, `TakingLaws`: what is
--   proved of pieces, one file for each file of functions.
-- - `StepLaws`, `PairLaws`, `ChainLaws`: what is proved of whole steps, of two vats between steps, and over many steps.
--
-- The files of proofs/:
-- - `NewReferences`, `CallMade`, `CallTaken`, `OutcomeKept`, `PromiseOpened`: what comes: references, calls, outcomes,
--   promises.
-- - `WhereNodesEnd`, `CallDelivered`, `CallWaits`, `CallSent`, `CallRouted`, `CallsRouted`, `HeldCalls`: a call goes on, by
--   where its node settles; so do lists of calls.
-- - `GroupSettles`, `PromiseFixed`, `FieldStops`, `OutcomeKnown`, `ValueFitted`, `AnswerKept`, `ApplicationTold`,
--   `OutcomeSettled`: a promise and an outcome settle.
-- - `HeadSwitched`, `HeadTurned`, `HeadAdvances`, `DisembargoBack`, `EmbargoLifted`: references take shorter paths.
-- - `CallEmbargoed`, `CallThrough`, `OtherCommands`: whole commands: a call through any reference, and those that make or
--   let go.
-- - `CallAnswered`, `BootstrapTaken`, `ReturnTaken`, `DisembargoMet`: whole messages that are taken.
-- - `SilentMessages`, `ExportsGrown`, `ExportsLowered`, `ImportsTaken`, `ResolvesSent`, `ReturnSent`, `AnswerCloses`,
--   `StepEnds`: what goes over the links beside calls, and what ends.
-- - `Differing`, `NewPoints`, `AlikeSessions`, `LinkShapes`, `UnbornKept`: what ghosts and links are behind a change of one
--   id or identity.
-- - `DescriptorsSaySo`, `ReturnsSaySo`, `SayingsKept`, `SayingsCarried`, `SayingsTaken`, `BecomesKnown`, `KnownKept`: what
--   is said of wires is so: as it is sent, on the way, as it is taken, and afterwards.
-- - `StepMoves`, `PairsTied`, `StepsTied`: whole steps, two vats between them, and many steps.
-- - `FromMidway`, `ActsFollow`: what pieces and first acts take as known follows from one record.
-- - `MidwayKept`, `MidwayRouted`, `MidwaySaid`, `MidwayFixed`, `MidwayTold`, `MidwaySettled`, `MidwayDrained`: that record
--   is kept as a call is counted, as its outcome is kept, as calls go on, as Resolves are sent, as a promise is fixed, as a
--   Return is sent, as an outcome settles, and as all do that arose.
-- - `MidwayGone` with `Placed`, `MidwayBelow`, `MidwaySwept`, `StepsFollow` with `Unmoved`, `MidwayBetween`: it is kept as
--   what no place names goes, as any entries go, by the end of a step, and by whole steps of commands, in which a vat's
--   level and name don't change; it is so of new vats.
-- - `MidwayTurned`, `FirstCommands`: it is kept as references, embargoes and promises come and go, and by the first act of
--   each command that settles nothing.
-- - `MidwayTaken`, `MessagesTaken`, `CallsReceived`, `ReturnsReceived`, `EachReceived`, `MessagesFollow`: it is kept as a
--   message comes off the link and its descriptors are taken, as exports fall, as an answer opens or closes, by each
--   received message, and by whole steps of any command and of a message.
-- - `EmbargoesKept`: each step keeps what is so of embargoes.
-- - `LinkShapes`, `UnbornKept`, `Differing`, `WhatGoes`: links after a change; the outcomes that what is on its way will
--   make; what is not the same; what no place names goes.

pub mod Points
pub mod Ghosts
pub mod Sides
pub mod Views
pub mod Ties
pub mod Sayings
pub mod Named
pub mod Premises
pub mod Laws
pub mod MessageLaws
pub mod QuietLaws
pub mod OutcomeLaws
pub mod SayingLaws
pub mod TakingLaws
pub mod MakingLaws
pub mod StepLaws
pub mod PairLaws
pub mod KnownLaws
pub mod ChainLaws
pub mod Midway
pub mod WholeSteps
pub mod Between
pub mod FirstActs
pub mod Received
pub mod Embargoes
