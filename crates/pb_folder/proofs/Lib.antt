pub mod Lists
pub mod SaidLaws
pub mod OneMeaning
pub mod AlikeLaws
pub mod GoingOn
pub mod Examples
pub mod ShownLaws
mod ShownExamples
mod ShownWorld
