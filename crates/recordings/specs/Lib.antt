pub mod Limits
pub mod Recording
pub mod Lasso
pub mod Promise
pub mod RecordingLaws
pub mod LassoLaws
pub mod Letters
