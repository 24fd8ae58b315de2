pub mod Provider
pub mod Faults
pub mod Places
pub mod Files
