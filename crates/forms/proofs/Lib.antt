pub mod FormSignals
pub mod ForbiddenLaws
pub mod Examples
pub mod FormLaws
pub mod Cases
