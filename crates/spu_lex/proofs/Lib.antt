pub mod Digits
pub mod Ends
pub mod Laws
pub mod Steps
pub mod NoMemory
