pub mod View
pub mod Around
pub mod Devices
pub mod Moves
pub mod Meets
pub mod Opening
