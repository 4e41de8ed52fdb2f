pub mod Windows
pub mod TableLaws
pub mod UnaryLaws
pub mod RepetitionLaws
pub mod WindowLaws
