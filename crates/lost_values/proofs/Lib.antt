pub mod Sames
pub mod Lists
pub mod Steps
pub mod Values
pub mod Replaced
pub mod Knowing
pub mod FailedStores
