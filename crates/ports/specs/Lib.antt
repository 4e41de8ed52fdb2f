pub mod Ports
pub mod Firsts
pub mod FirstsLaws
pub mod Signals
pub mod Listing
pub mod EntryRuns
pub mod EntryRunLaws
pub mod ListingLaws
