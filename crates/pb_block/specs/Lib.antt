pub mod Blocks
pub mod Reading
pub mod Held
pub mod Cursors
pub mod Runs
