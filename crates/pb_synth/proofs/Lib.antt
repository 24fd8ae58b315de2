pub mod MappedForms
pub mod BehindLaws
pub mod ClashLaws
pub mod WithinLaws
pub mod JoinedOrder
pub mod Windows
pub mod ShownLaws
mod Examples
