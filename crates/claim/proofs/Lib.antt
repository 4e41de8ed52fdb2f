pub mod ClaimLaws
pub mod RefusalNumbers
pub mod ConvertsLaws
pub mod ReadsLaws
pub mod Cases
pub mod YieldsLaws
pub mod ConvertingLaws
pub mod DeliveredLaws
