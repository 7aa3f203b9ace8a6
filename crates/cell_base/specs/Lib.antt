pub mod Bytes
pub mod Bits
pub mod Lanes
pub mod Numbers
pub mod Hex
pub mod Words
pub mod Walk
pub mod Records
