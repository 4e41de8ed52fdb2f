-- No text that passes refusal 9 comes to a value of a wrong type.
pub mod TypeSoundness
pub mod LineTypes
pub mod FirstTable
pub mod ExpansionTypes
pub mod Reaching
pub mod LaterRefusals
pub mod DefinitionTypes
pub mod OperandLaws
pub mod DeclarationTypes
pub mod TypeLaws
pub mod KnownTypes
pub mod TableTypes
