pub mod Ordering
pub mod FirstLaws
pub mod NextLaws
pub mod AwaitedLaws
pub mod ChainLaws
pub mod RunLaws
pub mod AloneLaws
pub mod Cases
