pub mod Faults
pub mod Left
pub mod Said
pub mod Shown
pub mod Tables
pub mod AtFault
