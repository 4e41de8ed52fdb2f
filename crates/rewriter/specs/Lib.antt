pub mod Rewriting
pub mod RewritingLaws
pub mod OwnNodes
pub mod Fitting
pub mod FittingLaws
pub mod Promise
pub mod PromiseLaws
pub mod Examples
