pub mod Loops
pub mod Parts
pub mod Contents
pub mod Lists
pub mod Edits
mod Examples
