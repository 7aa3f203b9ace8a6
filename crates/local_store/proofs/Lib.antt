pub mod Kept
pub mod WordLemmas
