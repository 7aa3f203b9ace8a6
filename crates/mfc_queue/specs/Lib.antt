pub mod Places
pub mod Sets
pub mod Calls
pub mod At
pub mod Stands
