pub mod Evaluation
pub mod Promise
pub mod Evaluated
pub mod Listed
