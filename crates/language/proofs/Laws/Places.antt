-- Every refused place lies in the text.
pub mod ParsedPlaces
pub mod NamePlaces
pub mod ValuePlaces
pub mod PlaceBounds
pub mod TypePlaces
pub mod SignalPlaces
pub mod ReadingPlaces
pub mod AllLines
