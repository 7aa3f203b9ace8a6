pub mod CallLaws
pub mod AtLemmas
mod Walks
mod SetLemmas
pub mod Holding
mod PlaceLemmas
mod Before
mod Groups
mod Counting
