pub mod Pair
pub mod LevelRow
pub mod Refusals
pub mod Pieces
pub mod Printed
pub mod Statuses
