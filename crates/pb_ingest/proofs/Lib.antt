pub mod FreeLevels
pub mod OnTop
pub mod PairsFirst
pub mod Planning
pub mod Apart
pub mod WithTables
pub mod Ingest
