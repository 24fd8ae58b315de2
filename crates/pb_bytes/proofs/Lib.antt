pub mod BigEndianLemmas
pub mod VarintLemmas
pub mod ReadingLemmas
pub mod Places
pub mod Examples
pub mod Lists
pub mod Steps
