pub mod NamedLemmas
pub mod FileLemmas
pub mod SlotLemmas
pub mod CutLemmas
pub mod FolderLemmas
pub mod LeftLemmas
pub mod ImageLemmas
