pub mod Relation
pub mod Remainder
pub mod Signs
