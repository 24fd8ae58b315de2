pub mod Answered
pub mod PartLemmas
pub mod ContentLemmas
pub mod DecodedLaws
