-- Tables of declared names in which the words of enumerations are short.
use Rattle.language.specs.DeclaredNames.{Declared, Constant, Single, BusOf, Identifies, WaitingBus, Table}
use Rattle.language.specs.Lists.{All}
use Rattle.language.proofs.Laws.Values.NameLaws.{Entries}
use Rattle.choices.specs.StoredWords.{Short}

-- a declared name's words, if it is an identifier, are short
abbrev pub ShortWords : Declared → Type 0
ShortWords (Constant n) = Unit {0}
ShortWords Single = Unit {0}
ShortWords (BusOf n) = Unit {0}
ShortWords (Identifies ws) = All Short ws
ShortWords WaitingBus = Unit {0}

abbrev pub ShortTable : Table → Type 0
ShortTable d = Entries ShortWords d
