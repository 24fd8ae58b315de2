pub mod StageLemmas
pub mod Files
pub mod WholeLemmas
