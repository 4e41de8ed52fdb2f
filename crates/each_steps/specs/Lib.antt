pub mod Onward
pub mod GatherLaws
pub mod OnwardLaws
pub mod Misfits
pub mod MisfitLaws
pub mod OverLaws
pub mod EachLaws
