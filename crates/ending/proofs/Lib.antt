pub mod HandingLaws
pub mod HandsLaws
pub mod FinishingLaws
pub mod EndingsLaws
