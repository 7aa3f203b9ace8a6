pub mod States
pub mod Images
pub mod Verdicts
pub mod Summaries
