pub mod Delivered
pub mod NamingLaws
pub mod FaultLaws
pub mod Cases
pub mod TextLaws
pub mod WholeLaws
