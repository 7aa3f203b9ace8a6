pub mod Loop
pub mod Lines
pub mod NextLine
pub mod Records
pub mod Runs
