pub mod Worked
pub mod Works
pub mod Seated
