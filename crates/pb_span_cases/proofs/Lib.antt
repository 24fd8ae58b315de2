pub mod SignFacts
pub mod Remainders
pub mod TableFacts
pub mod RemainLaws
