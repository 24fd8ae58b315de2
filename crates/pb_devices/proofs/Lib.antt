pub mod Options
pub mod Over
pub mod Images
pub mod Kept
