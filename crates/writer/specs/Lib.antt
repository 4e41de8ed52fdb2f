pub mod Promise
pub mod PromiseLaws
pub mod Stages
pub mod Numbers
