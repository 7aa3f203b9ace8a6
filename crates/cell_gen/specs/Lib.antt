pub mod Program
pub mod Generated
