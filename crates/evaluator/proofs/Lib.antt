pub mod Full
pub mod Copies
pub mod EvaluatedLaws
pub mod EvaluationLaws
pub mod Starred
