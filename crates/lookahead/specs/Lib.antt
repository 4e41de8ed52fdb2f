pub mod Span
pub mod Reaching
pub mod Promise
pub mod Codes
