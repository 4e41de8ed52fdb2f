pub mod Promise
pub mod Runs
pub mod Slots
pub mod Digits
pub mod NameLaws
pub mod SlotLaws
pub mod Turns
