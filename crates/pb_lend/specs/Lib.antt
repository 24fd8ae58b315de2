pub mod Lent
pub mod Received
pub mod Examples
