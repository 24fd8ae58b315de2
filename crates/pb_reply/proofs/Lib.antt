pub mod Growth
pub mod PrintedLemmas
