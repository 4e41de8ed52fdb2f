pub mod Promise
pub mod Tables
pub mod TablesLaws
pub mod Stages
