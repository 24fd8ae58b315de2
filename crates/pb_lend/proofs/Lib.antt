pub mod CutViews
pub mod CutMaps
pub mod Received
pub mod Beside
pub mod Order
pub mod Least
