pub mod First
pub mod Standing
pub mod Reopened
pub mod Files
pub mod Codes
pub mod Calls
