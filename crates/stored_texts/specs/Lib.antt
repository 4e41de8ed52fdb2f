pub mod Pieces
pub mod Checksum
pub mod Calling
pub mod CallingLaws
