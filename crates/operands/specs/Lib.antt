-- Stored expressions as the machine reads them: what is lent, entries by index, expressions by the class of their kind.
pub mod Working
pub mod Entries
pub mod NumeralTokens
pub mod Classes
pub mod ClassLaws
pub mod Operands
pub mod KindLaws
pub mod SpellingLaws
pub mod Makings
pub mod MakingLaws
