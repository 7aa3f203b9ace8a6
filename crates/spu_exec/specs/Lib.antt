pub mod Computed
pub mod Meaning
pub mod Places
