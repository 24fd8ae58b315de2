pub mod LayerPairs
pub mod PartCases
pub mod Passing
pub mod RowMerging
pub mod SpanMerging
