pub mod Spelling
pub mod Spells
