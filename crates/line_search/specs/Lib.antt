pub mod Walking
pub mod WalkingLaws
pub mod LineLaws
pub mod Findings
pub mod FoundLaws
