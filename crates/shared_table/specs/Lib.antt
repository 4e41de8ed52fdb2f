pub mod Shared
pub mod PositionLaws
pub mod DepthLaws
pub mod SearchLaws
pub mod GrowthLaws
pub mod RoomLaws
pub mod SharedLaws
pub mod PutLaws
