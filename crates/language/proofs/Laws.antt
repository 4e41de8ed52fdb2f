-- What follows from the definitions.
pub mod Buffers
pub mod EqualModels
pub mod Grammar
pub mod Places
pub mod Meaning
pub mod Types
pub mod Values
pub mod Basics
