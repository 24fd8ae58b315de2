pub mod Payloads
pub mod LogFile
pub mod EachLog
pub mod NewFolder
pub mod Calls
pub mod Faults
pub mod Steps
