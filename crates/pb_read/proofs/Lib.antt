pub mod Devices
pub mod Passing
pub mod Maps
pub mod Reading
pub mod Held
