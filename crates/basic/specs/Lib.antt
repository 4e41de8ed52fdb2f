pub mod Spelling
pub mod Basic
pub mod Writing
pub mod Answer
pub mod Statements
