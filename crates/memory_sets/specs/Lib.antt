pub mod Places
pub mod Sorting
pub mod PlaceLaws
pub mod AnswerLaws
pub mod PlacedLaws
pub mod MergeLaws
pub mod SelectLaws
pub mod SortingLaws
