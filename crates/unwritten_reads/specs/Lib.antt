pub mod Reads
pub mod Ranges
pub mod Marks
pub mod ByMarks
pub mod Keeping
