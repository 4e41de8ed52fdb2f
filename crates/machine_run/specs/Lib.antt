-- The machine's runs: what is asked for and promised.
pub mod Running
pub mod Choosing
pub mod KindLaws
pub mod Bringing
pub mod BringingLaws
pub mod Evaluating
pub mod ChoosingLaws
pub mod StartLaws
pub mod BackLaws
pub mod CycleLaws
pub mod AnswerLaws
