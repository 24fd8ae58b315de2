pub mod Catalog
pub mod Calls
pub mod Entered
pub mod Faults
pub mod Found
