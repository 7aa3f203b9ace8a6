pub mod AnySet
pub mod SetLaws
pub mod SeenLaws
