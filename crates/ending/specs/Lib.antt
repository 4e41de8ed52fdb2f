pub mod Endings
pub mod Hands
pub mod Handing
pub mod Listing
pub mod Finishing
