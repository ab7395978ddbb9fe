pub mod Among
mod Naming
pub mod Exceptions
pub mod UsedOnce
pub mod SaysTheSame
pub mod LeadsOn
pub mod NamedNodes
pub mod HeldQuestions
pub mod GivenBack
pub mod NamedPieces
pub mod Below
pub mod Swept
pub mod NamedSteps
pub mod Taken
pub mod NamedMessages
pub mod Kept
pub mod Reached
pub mod InRuns
