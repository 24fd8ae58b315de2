pub mod Ascending
pub mod Pairs
pub mod Counts
