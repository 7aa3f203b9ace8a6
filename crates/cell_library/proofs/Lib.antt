pub mod BundleLaws
pub mod NamesLaws
pub mod WordsLaws
pub mod AnswersLaws
