pub mod Fields
pub mod Effects
pub mod Flows
pub mod Allowed
pub mod Logs
