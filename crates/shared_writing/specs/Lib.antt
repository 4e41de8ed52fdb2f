pub mod Writing
pub mod StayLaws
pub mod WritingLaws
pub mod KeptLaws
pub mod OwnLaws
pub mod BelongLaws
pub mod StepLaws
pub mod WindowLaws
