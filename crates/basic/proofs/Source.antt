-- What is known of an accepted text's signals: their names, inputs before outputs, and what 22 leaves of them.
use Rattle.std.specs.Prelude.{ℕ, zero, suc, ◌+◌, ◌^◌, ◌≤◌, ◌<◌, ◌≡◌, refl, Bool, true, false, not, ◌&&◌, ◌||◌, List, [], ◌∷◌, ◌++◌, map, leb, eqb, length}
use Rattle.std.proofs.Common.{ap, ap₂, ◌∙◌, sym, subst, append-nil, arith, leb-true, eq-eqb, ne_eqb}
use Rattle.std.proofs.lemmas.Bool.{false≢true}
use Rattle.std.proofs.lemmas.List.{map-append}
use Rattle.std.proofs.Math.Option.{Option, none, some}
use Rattle.node.specs.Result.{Done}
use Rattle.language.specs.Limits.{max_name, index_bits, width_bits}
use Rattle.language.specs.Bytes.{same}
use Rattle.language.specs.Tokens.{Token}
use Rattle.language.specs.Tree.{Definition, Declaration, OneSignal, OfWidth, OfType, Spec}
use Rattle.language.specs.Parsing.{parsed}
use Rattle.language.specs.DeclaredNames.{Port, inputs, outputs, Declarations, declarations}
use Rattle.language.specs.Numbering.{signals_of, entries, signal_list}
use Rattle.language.specs.Meaning.{Atom}
use Rattle.language.specs.Numbered.{flag_of}
use Rattle.language.specs.Reading.{NumberedFormula, text_expansion}
use Rattle.language.specs.Braces.{ProperDeclaration, ProperSubsection}
use Rattle.language.proofs.Laws.Basics.Lists.{All, all_more, all_append, all_left, all_right, all_both}
use Rattle.language.proofs.Laws.Basics.Tests.{split, pick, leave, and_left, and_right, some_none}
use Rattle.language.proofs.Laws.Grammar.TreeTokens.{InDeclaration, InSubsection}
use Rattle.language.proofs.Laws.Grammar.Parses.{parsed-proper}
use Rattle.language.proofs.Laws.Grammar.NameTokens.{parsed-tokens}
use Rattle.language.specs.Listed.{declared_name, flag}
use Rattle.language.proofs.Laws.Values.NameLaws.{inputs-all, outputs-all}
use Rattle.language.proofs.Laws.Values.PortLaws.{PortFor, Pairs, ports_for_lem, pairs-right}
use Rattle.language.proofs.Laws.Values.SignalLaws.{entry_of}
use Rattle.language.proofs.Laws.Values.EntryLaws.{entry-flag}
use Rattle.language.proofs.Laws.Meaning.NumberedLaws.{atom_at, PortPlaced, entry-names}
use Rattle.language.proofs.Laws.Meaning.TextPorts.{ports_placed}
use Rattle.language.proofs.Laws.Meaning.Acceptance.{accepts}
use Rattle.language.proofs.Laws.Meaning.SignalOrder.{list-append}
use Rattle.basic.specs.Spelling.{spelling, spelled, names_of, side_of}
use Rattle.basic.specs.Writing.{taken, fault_from}
use Rattle.basic.proofs.Names.{ProperName, NameToken, tokens-names, bit-name}

-- the names of ports are names
declared-named : (m : Declaration) → InDeclaration NameToken m → ProperDeclaration m → ProperName (declared_name m).text
declared-named (OneSignal x) h n = h n
declared-named (OfWidth x e) h n = h.0 n.0
declared-named (OfType u x) h n = h.1 n.1

abbrev NamedPort : Port → Type 0
NamedPort p = ProperName p.name.text

port_named : (defs : List Definition) (output : Bool) (m : Declaration) (p : Port) → PortFor defs output m p → ProperName (declared_name m).text → NamedPort p
port_named defs output m p f h = subst (λ (t : Token). ProperName t.text) (sym f.named) h

module _ (text : List ℕ) (x : Spec) (d : Declarations) (e : parsed text ≡ Done x) (hd : declarations x ≡ Done d) where
  ports_named : All NamedPort d.inputs × All NamedPort d.outputs
  ports_named =
      let found = (parsed-tokens NameToken text (tokens-names text) e).main in
      let proper = (parsed-proper text e).main in
      let I = InDeclaration NameToken in
      let f = ports_for_lem x d hd in (
        pairs-right (port_named x.definitions false) (inputs x.main) d.inputs f.ins
            (all_both declared-named (inputs x.main) (inputs-all (InSubsection NameToken) I (λ ds g. g) x.main found)
            (inputs-all ProperSubsection ProperDeclaration (λ ds g. g) x.main proper)),
        pairs-right (port_named x.definitions true) (outputs x.main) d.outputs f.outs
            (all_both declared-named (outputs x.main) (outputs-all (InSubsection NameToken) I (λ ds g. g) x.main found)
            (outputs-all ProperSubsection ProperDeclaration (λ ds g. g) x.main proper)),
      )

-- a port of a side, with a name that stands in the text
record PortOf (text : List ℕ) (output : Bool) (p : Port) : Type 0 where
  placed : PortPlaced text p
  named : NamedPort p
  sided : p.output ≡ output

-- an entry of its signals: of this side, and its signal has a name
record EntryFor (text : List ℕ) (output : Bool) (e : ℕ) : Type 0 where
  named : ProperName (spelled text e)
  flagged : flag_of e ≡ flag output

atom_named : (x : List ℕ) (width i : ℕ) → ProperName x → ProperName (spelling (atom_at x width i))
atom_named x width i h = split (λ (a : Atom). ProperName (spelling a)) (eqb width 0) (λ _. h) (λ _. bit-name x i h)

module _ (text : List ℕ) (output : Bool) where
  entry_for : (p : Port) → PortOf text output p → (i : ℕ) → i < signals_of p → EntryFor text output (entry_of p i)
  entry_for p h i l =
      let narrow = h.placed.narrow in
      let index : i < 2 ^ index_bits = omega arith in
      let width : p.width < 2 ^ width_bits = omega arith in
      record {
        named = subst (λ (a : Atom). ProperName (spelling a)) (sym (entry-names text p h.placed i l)) (atom_named p.name.text p.width i h.named);
        flagged = entry-flag p.output h.placed.offset index width ∙ ap flag h.sided;
      }

  entries_for : (p : Port) → PortOf text output p → (n i : ℕ) → i + n ≤ signals_of p → All (EntryFor text output) (entries p n i)
  entries_for p h zero i l = tt
  entries_for p h (suc n) i l = (entry_for p h i (omega arith), entries_for p h n (suc i) (omega arith))

  list_for : (ps : List Port) → All (PortOf text output) ps → All (EntryFor text output) (signal_list ps)
  list_for [] h = tt
  list_for (p ∷ ps) h = all_append (EntryFor text output) (entries p (signals_of p) 0) (signal_list ps) (entries_for p h.0 (signals_of p) 0 (omega arith)) (list_for ps h.1)

  -- the side's names are all of them, and the other side's none
  side_all : (l : List ℕ) → All (EntryFor text output) l → side_of output text l ≡ names_of text l
  side_all [] h = refl
  side_all (e ∷ l) h =
      pick (eqb (flag_of e) (flag output)) (spelled text e ∷ side_of output text l) (side_of output text l) (eq-eqb (flag_of e) (flag output) h.0.flagged)
      ∙ ap (spelled text e ∷◌) (side_all l h.1)

  flags_all : (l : List ℕ) → All (EntryFor text output) l → map flag_of l ≡ map (λ _. flag output) (names_of text l)
  flags_all [] h = refl
  flags_all (e ∷ l) h = ap₂ ◌∷◌ h.0.flagged (flags_all l h.1)

side_none : (text : List ℕ) (output : Bool) (l : List ℕ) → All (EntryFor text (not output)) l → side_of output text l ≡ []
side_none text output [] h = refl
side_none text output (e ∷ l) h =
    leave (eqb (flag_of e) (flag output)) (spelled text e ∷ side_of output text l) (side_of output text l) (ne_eqb (flag_of e) (flag output) (λ z. other output (sym h.0.flagged ∙ z)))
    ∙ side_none text output l h.1
  where
    other : (o : Bool) → flag (not o) ≡ flag o → ⊥
    other true z = omega arith
    other false z = omega arith

side_append : (text : List ℕ) (output : Bool) (l m : List ℕ) → side_of output text (l ++ m) ≡ side_of output text l ++ side_of output text m
side_append text output [] m = refl
side_append text output (e ∷ l) m = go (eqb (flag_of e) (flag output)) (side_append text output l m)
  where
    go : (b : Bool) → side_of output text (l ++ m) ≡ side_of output text l ++ side_of output text m →
        ◌≡◌ {A = List (List ℕ)} (elim b [ true ↦ spelled text e ∷ side_of output text (l ++ m) | false ↦ side_of output text (l ++ m) ])
        ((elim b [ true ↦ spelled text e ∷ side_of output text l | false ↦ side_of output text l ]) ++ side_of output text m)
    go true ih = ap (spelled text e ∷◌) ih
    go false ih = ih

-- a signal list: every signal has a name; the inputs' names and then the outputs' are all; so are the flags
pub record Listed (text list : List ℕ) : Type 0 where
  pub named : All ProperName (names_of text list)
  pub sides : side_of false text list ++ side_of true text list ≡ names_of text list
  pub flags : map flag_of list ≡ map (λ _. 0) (side_of false text list) ++ map (λ _. 1) (side_of true text list)

names-all : (text : List ℕ) (output : Bool) (l : List ℕ) → All (EntryFor text output) l → All ProperName (names_of text l)
names-all text output [] h = tt
names-all text output (e ∷ l) h = (h.0.named, names-all text output l h.1)

listed_by : (text A B : List ℕ) → All (EntryFor text false) A → All (EntryFor text true) B → Listed text (A ++ B)
listed_by text A B a b =
    let ins : side_of false text (A ++ B) ≡ names_of text A = side_append text false A B ∙ ap₂ ◌++◌ (side_all text false A a) (side_none text false B b) ∙ append-nil (names_of text A) in
    let outs : side_of true text (A ++ B) ≡ names_of text B = side_append text true A B ∙ ap₂ ◌++◌ (side_none text true A a) (side_all text true B b) in
    let whole : names_of text (A ++ B) ≡ names_of text A ++ names_of text B = map-append (spelled text) A B in
    record {
      named = subst (All ProperName) (sym whole) (all_append ProperName (names_of text A) (names_of text B) (names-all text false A a) (names-all text true B b));
      sides = ap₂ ◌++◌ ins outs ∙ sym whole;
      flags =
          map-append flag_of A B ∙ ap₂ ◌++◌ (flags_all text false A a) (flags_all text true B b)
          ∙ ap₂ (λ (l m : List (List ℕ)). map (λ _. 0) l ++ map (λ _. 1) m) (sym ins) (sym outs);
    }

sided_right : (defs : List Definition) (output : Bool) (ds : List Declaration) (ps : List Port) → Pairs (PortFor defs output) ds ps → All (λ p. p.output ≡ output) ps
sided_right defs output [] [] h = tt
sided_right defs output [] (p ∷ ps) h = absurd h
sided_right defs output (m ∷ ds) [] h = absurd h
sided_right defs output (m ∷ ds) (p ∷ ps) h = (h.0.flagged, sided_right defs output ds ps h.1)

ports_of_lem : (text : List ℕ) (output : Bool) (ps : List Port) → All (PortPlaced text) ps → All NamedPort ps → All (λ p. p.output ≡ output) ps → All (PortOf text output) ps
ports_of_lem text output [] a b c = tt
ports_of_lem text output (p ∷ ps) a b c = (record { placed = a.0; named = b.0; sided = c.0 }, ports_of_lem text output ps a.1 b.1 c.1)

pub source-listed : {text : List ℕ} {c : NumberedFormula} → text_expansion text ≡ Done c → Listed text c.signals
source-listed {text} {c} e =
    let a = accepts e in
    let d = a.declared in
    let x = a.spec in
    let P = PortPlaced text in
    let placed = ports_placed text x d a.parsing a.declaring in
    let named = ports_named text x d a.parsing a.declaring in
    let f = ports_for_lem x d a.declaring in
    let ins = ports_of_lem text false d.inputs (all_left P d.inputs d.outputs placed) named.0 (sided_right x.definitions false (inputs x.main) d.inputs f.ins) in
    let outs = ports_of_lem text true d.outputs (all_right P d.inputs d.outputs placed) named.1 (sided_right x.definitions true (outputs x.main) d.outputs f.outs) in
    subst (Listed text) (sym (a.listing ∙ list-append d.inputs d.outputs))
    (listed_by text (signal_list d.inputs) (signal_list d.outputs) (list_for text false d.inputs ins) (list_for text true d.outputs outs))

-- what 22 leaves: names of at most 64 bytes, no two the same
abbrev pub Short : List (List ℕ) → Type 0
Short ns = All (λ n. length n ≤ max_name) ns

abbrev pub Unlike : List ℕ → List ℕ → Type 0
Unlike a b = same a b ≡ false

abbrev pub AllUnlike : List (List ℕ) → Type 0
AllUnlike [] = Unit {0}
AllUnlike (n ∷ ns) = All (Unlike n) ns × AllUnlike ns

-- of names before which others stand
record Faultless (before ns : List (List ℕ)) : Type 0 where
  short : Short ns
  unlike : AllUnlike ns
  new : All (λ n. All (λ b. Unlike b n) before) ns

not_taken : (before : List (List ℕ)) (n : List ℕ) → not (taken before n) ≡ true → All (λ b. Unlike b n) before
not_taken [] n h = tt
not_taken (b ∷ bs) n h = go (same b n) refl h (λ g. not_taken bs n g)
  where
    go : (c : Bool) → same b n ≡ c → not (c || taken bs n) ≡ true → (not (taken bs n) ≡ true → All (λ b. Unlike b n) bs) → Unlike b n × All (λ b. Unlike b n) bs
    go true e g f = absurd (false≢true g)
    go false e g f = (e, f g)

faultless_from : (before : List (List ℕ)) (k : ℕ) (ns : List (List ℕ)) → fault_from before k ns ≡ none → Faultless before ns
faultless_from before k [] e = record { short = tt; unlike = tt; new = tt }
faultless_from before k (n ∷ ns) e = go (leb (length n) max_name && not (taken before n)) refl e (λ g. faultless_from (n ∷ before) (suc k) ns g)
  where
    go : (c : Bool) → (leb (length n) max_name && not (taken before n)) ≡ c → ◌≡◌ {A = Option ℕ} (elim c [ true ↦ fault_from (n ∷ before) (suc k) ns | false ↦ some k ]) none →
        (fault_from (n ∷ before) (suc k) ns ≡ none → Faultless (n ∷ before) ns) → Faultless before (n ∷ ns)
    go true h g f =
        let r = f g in
        record {
          short = (leb-true (length n) max_name (and_left (leb (length n) max_name) (not (taken before n)) h), r.short);
          unlike = (all_more (λ m u. u.0) ns r.new, r.unlike);
          new = (not_taken before n (and_right (leb (length n) max_name) (not (taken before n)) h), all_more (λ m u. u.1) ns r.new);
        }
    go false h g f = absurd (some_none g)

pub faultless : (ns : List (List ℕ)) → fault_from [] 0 ns ≡ none → Short ns × AllUnlike ns
faultless ns e = let r = faultless_from [] 0 ns e in (r.short, r.unlike)
