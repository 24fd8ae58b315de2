pub mod Outputs
pub mod Cutting
pub mod Laws
pub mod Chosen
pub mod Compacted
