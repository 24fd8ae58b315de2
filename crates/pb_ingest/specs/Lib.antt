pub mod Levels
pub mod Planned
pub mod Pairs
pub mod Examples
