pub mod Losses
pub mod Touches
pub mod Keeping
pub mod Failing
