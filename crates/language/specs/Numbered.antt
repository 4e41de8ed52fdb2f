-- The numbered word: what the caller holds, the text and the lent signal list, joins a word over the declared signals to the nodes (document 01, 'Demand 3': 'signal
-- k being the one numbered k').
use Rattle.std.specs.Prelude.{ℕ, zero, suc, false, List, [], ◌∷◌, eqb, take, drop}
use Rattle.node.specs.BitFields.{above, below}
use Rattle.node.specs.Operators.{Word as NodeWord}
use Rattle.language.specs.Limits.{offset_bits, index_bits, width_bits}
use Rattle.language.specs.Bytes.{if◌then◌otherwise◌, is_name_byte}
use Rattle.language.specs.Tokens.{run}
use Rattle.language.specs.Meaning.{Atom, SignalOf, BitOf, Word}

-- the fields of an entry: '1 output flag, 15 offset of the name, 8 index in the bus, 8 width (index and width 0 for a single signal)'
abbrev pub width_of : ℕ → ℕ
width_of e = below width_bits e

abbrev pub index_of : ℕ → ℕ
index_of e = below index_bits (above width_bits e)

abbrev pub offset_of : ℕ → ℕ
offset_of e = below offset_bits (above index_bits (above width_bits e))

abbrev pub flag_of : ℕ → ℕ
flag_of e = above offset_bits (above index_bits (above width_bits e))

-- the name that stands in the text at an offset
abbrev pub name_at : List ℕ → ℕ → List ℕ
name_at text offset = let s = drop offset text in take (run is_name_byte s) s

-- the declared signal that an entry names
abbrev pub atom_of : List ℕ → ℕ → Atom
atom_of text e =
    let x = name_at text (offset_of e) in
    if eqb (width_of e) 0 then SignalOf x otherwise BitOf x (index_of e)

-- is signal k present at position t? Signals past the list's end are absent
abbrev pub numbered : List ℕ → List ℕ → Word → NodeWord
numbered text [] w t k = false
numbered text (e ∷ es) w t zero = w t (atom_of text e)
numbered text (e ∷ es) w t (suc k) = numbered text es w t k
