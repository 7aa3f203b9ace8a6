pub mod Lemmas
pub mod Commands
mod NextSteps
mod LogLaws
