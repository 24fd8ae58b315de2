pub mod Call
pub mod Creating
pub mod Attaching
pub mod Releasing
