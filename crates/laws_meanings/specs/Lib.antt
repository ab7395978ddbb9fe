-- What each file says, and the files of proofs/ that prove it:
-- - `AsMade`: each call that waits or is on its way, and each delivery in the history up to it, is as the call with its
--   stamp was made. Proofs: `Stamped`: the next stamp is a new one; `Made`: lists and what is put in place; `Making`: acts
--   and scenes.
-- - `OnePlace`: each call is at one place at most, and delivered once; so in runs. Proofs: `Placed`: sums over places;
--   `Placing`: acts, scenes and runs.
-- - `NewReferences`: the references that a delivery or an end gives are new. Proofs: `Given`: how often entries give one;
--   `Giving`: acts and scenes.
-- - `FirstEnds`: each end of a call is its first. Proofs: `Ends`: how often it ended, by entries; `Ending`: the run of one
--   vat behind a scene, in which it ends once.
-- - `AskedCalls`: what ends was asked in the history up to it. Proofs: `Asking`, of which more below.
-- - `Bootstraps`: what the numbers of own calls were asked for; each Bootstrap ends as its Return says, and that says the
--   other vat's bootstrap object. Proofs: `Numbers`: what entries ask, and what is put in place; `Asked`: the next number;
--   `Asking`: acts and scenes; `Rooting`: what is known and returned where no Call with an id comes; `Opening`: which
--   questions are open, and what is sent of their ids; `Hosting`: the bootstrap object stays; `Rooted`: scenes.
-- - `Tasks`: a task that is there was delivered and not answered; each is answered once. Proofs: `Tasking`.
-- - `Identities`: each outcome that is not known is of the call that its caller asked. Proofs: `Identified`: what is put in
--   place; `Whose`: acts; `WhoseFirst`: first acts; `LastAsked`: what entries ask, and sessions; `OfCalls`,
--   `OfCallsScenes`: scenes.
-- - `AnsweredEnds`: each call ends as it was answered, or, where it was not, broken. Proofs: `Awaited`: questions that wait
--   for their Return; `Replies`: how a call was answered; `Returning`: sessions of what returns; `Broken`: a call that
--   breaks is at no place any more; `Answering`: scenes.
-- - `NodeMeanings`: what references lead to, link by link: a link is one entry of the history, known for good; what leads
--   to an object stands for it. Proofs: `Links`.
-- - `NodeLabels`: what each node of a vat means, and that small acts keep it: where a node leads, it means. Proofs:
--   `Labelled`: links, lists and places; `Fitting`: the value that fits; `ActsMean`: acts.
-- - `CommandMeanings`: what nodes mean lasts through each step of a command, where the history has its entry. Proofs:
--   `CommandsMean`: those that open nothing; `Relabelled`: a label at a key that nothing names; `OpensMean`: those that
--   open a call, a Bootstrap or a promise.
-- - `FitCores`: in each scene a core is as laws of a command's first act want it. Proofs: `FitCores`.
-- - `FirstActs`: in scenes nodes mean behind the first act of each step what the history says, where they do before it and
--   its command was written, or its message says what it should. Proofs: `Begun`.
-- - `NoneLost`: while neither vat gives up, each call that was made is at a place, or its reference leads to broken, where
--   nodes mean behind first acts what the history says; so of a reference that stands for an object none is lost. Proofs:
--   `Losing`: acts and steps; `Somewhere`: scenes; `Unpending`: places where nothing is pending.
-- - `MessageMeanings`: what nodes mean lasts through each step of a received message that says what it should. Proofs:
--   `HeardMeans`: imports that come, what is read, first acts and steps; `RootHeard`: the bootstrap object; `ReadLabels`:
--   how descriptors and targets are read.
-- - `ReadMessages`: what a received message says, by the labels of its descriptors and its target, is what it says by the
--   nodes that its receiver makes. Proofs: `ReadReturns`: a Return; any message.
-- - `LastingMeanings`: what nodes mean is so in a longer history; at the end of a step of a scene it is known without the
--   step's effects, and each entry of these is as what leads to an object, or to broken, says. Proofs: `Lasts`: longer
--   histories; `Written`: the end of a step.
-- - `Fates`: in scenes an own promise that is not settled has no fate in the history. Proofs: `Unsettled`.
-- - `WrittenCommands`: in scenes a command is written as meanings want it; a payload names no other capabilities than go
--   with it. Proofs: `Writing`, `OwnCaps`.
-- - `StepMeanings`: so each step of a command in a scene keeps what nodes mean at its vat. Proofs: `StepsMean`.
-- - `WhatIsLeft`: what is left to show for all that is promised of deliveries and of ends in scenes. Proofs: `Left`;
--   `Leaving`: of ends, those of calls; `Unanswered`: of these, what the reference of one that was not answered stands for.
--
-- `Entries` has claims of each entry with what is before it, and that a command's own entries are no deliveries or ends;
-- `Walked` what each step from a scene keeps.

pub mod AsMade
pub mod NewReferences
pub mod FirstEnds
pub mod WhatIsLeft
pub mod AskedCalls
pub mod OnePlace
pub mod Bootstraps
pub mod Tasks
pub mod Identities
pub mod AnsweredEnds
pub mod NodeMeanings
pub mod NodeLabels
pub mod CommandMeanings
pub mod NoneLost
pub mod FirstActs
pub mod FitCores
pub mod MessageMeanings
pub mod ReadMessages
pub mod LastingMeanings
pub mod Fates
pub mod WrittenCommands
pub mod StepMeanings
