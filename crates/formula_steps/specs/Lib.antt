pub mod ConnectiveLaws
pub mod TruthLaws
