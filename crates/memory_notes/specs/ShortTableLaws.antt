-- Words of enumerations are short in every table that the declarations of a checked text come to.
use Rattle.std.specs.Prelude.{ℕ, zero, suc, Bool, true, false, List, [], ◌∷◌}
use Rattle.std.proofs.Common.{arith}
use Rattle.language.specs.Tree.{Identifier, Parameter, Declaration, OneSignal, OfWidth, OfType, Definition, Defined, Enumerated, Spec}
use Rattle.language.specs.Words.{words_in}
use Rattle.language.specs.DeclaredNames.{Constant, Table, identified, identifiers, as_declared, turns, waiting, constants, inputs, outputs, declarations}
use Rattle.language.proofs.Laws.Basics.Lists.{All, all_more, all_append, all_left, all_right}
use Rattle.language.proofs.Laws.Basics.Results.{Within, done, bind, bind_any}
use Rattle.language.proofs.Laws.Values.RegularWords.{RegularDefinition}
use Rattle.choices.specs.StoredWords.{Short}
use Rattle.notes.specs.FirstTable.{first_table}
use Rattle.memory_notes.specs.ShortTables.{ShortWords, ShortTable}

-- so in the tables that the declarations come to, one after the other
short_identified : (is : List Identifier) → All Short (words_in is) → ShortTable (identified is)
short_identified [] h = tt
short_identified (i ∷ is) h = (all_left Short i.words (words_in is) h, short_identified is (all_right Short i.words (words_in is) h))

short_identifiers : (ds : List Definition) → All RegularDefinition ds → ShortTable (identifiers ds)
short_identifiers [] h = tt
short_identifiers (Defined x e ∷ ds) h = short_identifiers ds h.1
short_identifiers (Enumerated x is ∷ ds) h =
    all_append (λ e. ShortWords e.1) (identified is) (identifiers ds) (short_identified is (all_more (λ v l. omega (arith, h.0.narrow)) (words_in is) h.0.equal)) (short_identifiers ds h.1)

short_waiting : (ds : List Declaration) (d : Table) → ShortTable d → ShortTable (waiting ds d)
short_waiting [] d h = h
short_waiting (OneSignal x ∷ ds) d h = (tt, short_waiting ds d h)
short_waiting (OfWidth x e ∷ ds) d h = (tt, short_waiting ds d h)
short_waiting (OfType u x ∷ ds) d h = (tt, short_waiting ds d h)

pub short_constants : (xs : List Parameter) (d : Table) → ShortTable d → Within ShortTable (constants xs d)
short_constants [] d h = done h
short_constants (x ∷ xs) d h = bind_any _ _ (λ n. short_constants xs ((x.name.text, Constant n) ∷ d) (tt, h))

pub short_declared : (n : ℕ) → ShortWords (as_declared n)
short_declared zero = tt
short_declared (suc n) = tt

pub short_turns : (defs : List Definition) (output : Bool) (ds : List Declaration) (d : Table) → ShortTable d → Within (λ s. ShortTable s.table) (turns defs output ds d)
short_turns defs output [] d h = done h
short_turns defs output (x ∷ ds) d h =
    bind_any _ _ (λ p. bind _ _ (short_turns defs output ds ((p.name.text, as_declared p.width) ∷ d) (short_declared p.width, h)) (λ s l. done l))

-- before any name has had its turn, and at the end
pub short_first : (x : Spec) → All RegularDefinition x.definitions → ShortTable (first_table x)
short_first x h = short_waiting (inputs x.main) _ (short_waiting (outputs x.main) _ (short_identifiers x.definitions h))

pub short_table : (x : Spec) → All RegularDefinition x.definitions → Within (λ d. ShortTable d.table) (declarations x)
short_table x h =
    let defs = x.definitions in
    bind _ _ (short_constants x.parameters (first_table x) (short_first x h)) (λ d k.
    bind _ _ (short_turns defs false (inputs x.main) d k) (λ i l. bind _ _ (short_turns defs true (outputs x.main) i.table l) (λ o m. done m)))
