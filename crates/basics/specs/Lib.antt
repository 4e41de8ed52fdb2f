pub mod Clearing
pub mod ClearingLaws
pub mod Copying
pub mod Lists
pub mod Told
