pub mod Faults
pub mod Damage
pub mod Tables
