pub mod Forms
pub mod Forbidden
