pub mod Facts
pub mod Holds
pub mod Seen
pub mod Stands
pub mod Steps
