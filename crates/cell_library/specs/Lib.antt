pub mod Answers
pub mod Asked
pub mod Missing
pub mod Question
pub mod Reading
