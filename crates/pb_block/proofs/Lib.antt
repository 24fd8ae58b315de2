pub mod Entries
pub mod Keys
pub mod Runs
pub mod Checks
pub mod BlockLaws
pub mod SeekLaws
pub mod Cursors
pub mod WriteLaws
mod Examples
