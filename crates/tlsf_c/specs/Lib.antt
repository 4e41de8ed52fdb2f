pub mod Packed
pub mod Promise
pub mod PackedLaws
