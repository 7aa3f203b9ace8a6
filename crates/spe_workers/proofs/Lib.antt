pub mod Rising
pub mod Ending
pub mod Seating
