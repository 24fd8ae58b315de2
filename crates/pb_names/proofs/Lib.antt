pub mod Digits
pub mod Makers
pub mod NamedLemmas
pub mod NumberedFileLemmas
pub mod PaddingLemmas
pub mod Prefixes
pub mod RangeLemmas
pub mod SpellingLemmas
