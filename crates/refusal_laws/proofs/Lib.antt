pub mod MarkTokens
pub mod LevelLaws
pub mod Refused
pub mod UseLaws
pub mod CountLaws
pub mod WordLaws
pub mod Places
pub mod LineLaws
