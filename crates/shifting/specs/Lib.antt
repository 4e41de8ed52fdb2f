pub mod Passing
pub mod PassingLaws
pub mod NodeLaws
pub mod LoopLaws
