pub mod Pairs
pub mod Folds
pub mod Found
pub mod Images
pub mod Results
