pub mod RowLengths
pub mod FlowPlaces
