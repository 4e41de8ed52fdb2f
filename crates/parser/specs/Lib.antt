pub mod Spelling
pub mod Parts
pub mod PartLaws
pub mod Lines
pub mod Headings
pub mod Information
pub mod Outlines
pub mod Steps
