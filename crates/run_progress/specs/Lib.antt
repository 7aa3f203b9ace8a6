pub mod Made
pub mod Changes
pub mod Progress
pub mod Repeats
pub mod Tracks
