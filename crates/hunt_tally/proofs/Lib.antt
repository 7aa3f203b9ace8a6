pub mod Entries
pub mod Taking
pub mod Told
pub mod Hunting
mod ExecutedLemmas
mod KindLemmas
mod Joining
mod Together
