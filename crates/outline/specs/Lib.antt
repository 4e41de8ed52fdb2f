pub mod Outlining
pub mod Tokenizing
