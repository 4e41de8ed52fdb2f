pub mod AnswerLaws
pub mod Checking
pub mod FormLaws
pub mod Forming
pub mod Joining
pub mod StoredLaws
