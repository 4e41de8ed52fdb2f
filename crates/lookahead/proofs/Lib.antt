pub mod ReachingLaws
pub mod Low
pub mod SpanAgrees
pub mod SpanLaws
pub mod SpanForms
pub mod KeptLaws
pub mod CodeLaws
