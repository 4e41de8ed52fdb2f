pub mod Room
pub mod RoomLaws
pub mod WritingOut
pub mod WritingOutLaws
pub mod Stages
