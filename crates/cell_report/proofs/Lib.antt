pub mod Texts
pub mod Lengths
pub mod Records
pub mod Words
