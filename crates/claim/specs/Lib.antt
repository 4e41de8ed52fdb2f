pub mod Claim
pub mod Yields
pub mod Reads
pub mod Converting
pub mod Converts
