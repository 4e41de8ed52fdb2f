pub mod MovingLaws
pub mod SearchLaws
