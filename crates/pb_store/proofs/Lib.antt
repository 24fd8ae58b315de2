pub mod Spends
pub mod Falls
pub mod Moves
pub mod Opening
pub mod Examples
mod FallExamples
mod MeetsExamples
mod IdleTurn
