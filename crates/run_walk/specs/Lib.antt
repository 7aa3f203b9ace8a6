pub mod Ordered
pub mod Walks
