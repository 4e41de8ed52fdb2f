pub mod Marks
pub mod MarkLaws
pub mod Named
pub mod NameLaws
pub mod KeepLaws
