pub mod TableLemmas
pub mod EncodeLemmas
pub mod MnemonicLemmas
pub mod FitLemmas
pub mod DecodeLemmas
pub mod ReadingLemmas
