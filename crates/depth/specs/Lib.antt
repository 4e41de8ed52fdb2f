pub mod Depth
pub mod Promise
pub mod LevelLaws
pub mod NodeLaws
pub mod DepthLaws
pub mod Progress
pub mod ReachedLaws
pub mod ProgressLaws
