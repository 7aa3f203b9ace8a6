pub mod Lists
pub mod Kept
pub mod Replays
pub mod Repeating
