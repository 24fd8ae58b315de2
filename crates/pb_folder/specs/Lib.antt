pub mod Said
pub mod Held
pub mod Alike
pub mod Meaning
pub mod StandsFor
pub mod Listed
pub mod Examples
pub mod Shown
