-- Laws of lists, tests, places and answers that the laws of the language are built on.
pub mod Tests
pub mod Exactly
pub mod NoPlace
pub mod Lists
pub mod Results
