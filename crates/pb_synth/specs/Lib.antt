pub mod KeyParts
pub mod Clash
pub mod Limits
pub mod Parts
