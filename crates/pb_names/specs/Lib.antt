pub mod Grammar
pub mod Identity
pub mod Named
pub mod NumberedFile
pub mod Padding
pub mod Ranges
pub mod Spelling
