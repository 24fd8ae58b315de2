pub mod Manifest
pub mod Judged
pub mod Faults
pub mod Numbers
pub mod Steps
pub mod Found
pub mod Rotation
