mod Examples
pub mod PayloadLemmas
pub mod FilePayloads
pub mod TornLemmas
pub mod PendingLemmas
pub mod LogLemmas
pub mod LogStates
pub mod WriteStates
pub mod AppendStates
pub mod CreateStates
pub mod OpenStates
pub mod EitherStates
pub mod DecodeLemmas
pub mod ReadLemmas
