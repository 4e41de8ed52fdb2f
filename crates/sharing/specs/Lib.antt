pub mod Sharing
pub mod Subformulas
