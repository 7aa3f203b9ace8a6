pub mod Nexts
pub mod Pages
