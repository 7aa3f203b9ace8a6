pub mod Entries
pub mod Form
pub mod LoadViews
pub mod Loaded
pub mod Order
pub mod Plans
pub mod Sources
