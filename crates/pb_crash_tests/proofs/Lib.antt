pub mod Driving
pub mod Committing
pub mod Marked
