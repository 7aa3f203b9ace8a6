pub mod RowLemmas
pub mod PlaceLemmas
pub mod GroupLemmas
pub mod LineLemmas
pub mod FoundLemmas
pub mod SameLemmas
mod SpanLemmas
