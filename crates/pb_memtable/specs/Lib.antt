pub mod View
pub mod Search
pub mod Joining
pub mod Index
pub mod Codes
