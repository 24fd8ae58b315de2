pub mod Excised
pub mod Unused
pub mod Planned
pub mod Drafted
pub mod Examples
pub mod Allowed
