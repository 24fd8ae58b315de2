pub mod Names
pub mod Lists
pub mod Swept
pub mod Begun
pub mod Chain
pub mod Files
pub mod Steps
pub mod Settling
pub mod Resting
pub mod Reserved
pub mod Unnamed
pub mod Removing
pub mod Sweeping
pub mod FirstEdit
pub mod Making
mod SweptExamples
mod BegunExamples
mod FilesExamples
