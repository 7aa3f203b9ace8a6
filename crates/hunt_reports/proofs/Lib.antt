mod OriginLaws
mod CoverageLemmas
mod Running
mod Spending
pub mod Told
pub mod Ends
pub mod Lists
mod Warned
mod ReportParts
