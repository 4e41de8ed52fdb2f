pub mod Promise
pub mod Counting
pub mod CountingLaws
