pub mod Naming
pub mod Diagnosing
