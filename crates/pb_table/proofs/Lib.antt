pub mod CountedLemmas
pub mod ItemLemmas
pub mod FormatLemmas
pub mod TableLemmas
pub mod SizeLemmas
pub mod Examples
