-- The word that a converted text is read on, numbered: it is the numbered word, one position later at the signals that the expansion puts an X above. The meaning goes by
-- the names in OUTPUTS, the expansion by the flags of the signal list.
use Rattle.std.specs.Prelude.{ℕ, zero, suc, ◌^◌, ◌≤◌, ◌<◌, ◌≡◌, refl, Bool, true, false, not, ◌||◌, List, [], ◌∷◌, ◌++◌, eqb, ltb, length, get_or}
use Rattle.std.proofs.Common.{ap, sym, ◌∙◌, arith}
use Rattle.std.proofs.Math.Logic.Iff as Equiv
use Rattle.std.proofs.Math.Decide.{dec_lt}
use Rattle.node.specs.Ltl.{Formula, Holds}
use Rattle.node.proofs.TemporalLaws.{Same}
use Rattle.node.specs.Result.{Done}
use Rattle.language.specs.Limits.{index_bits, width_bits}
use Rattle.language.specs.Bytes.{if◌then◌otherwise◌, same}
use Rattle.language.specs.Tokens.{Token}
use Rattle.language.specs.Tree.{Declaration, OneSignal, OfWidth, OfType, Subsection, Inputs, Outputs, Lines, Model, Mealy, Moore, Spec}
use Rattle.language.specs.Parsing.{parsed}
use Rattle.language.specs.DeclaredNames.{Port, inputs, outputs, Declarations, declarations}
use Rattle.language.specs.Numbering.{in_order, signal_list}
use Rattle.language.specs.Shifting.{is_output, adapted}
use Rattle.language.specs.Meaning.{Atom, SignalOf, BitOf, Word, is_declared, is_output_name, name_of, read_as}
use Rattle.language.specs.Numbered.{flag_of, atom_of, numbered}
use Rattle.language.proofs.Laws.Basics.Lists.{All, all_more, all_append, all_both}
use Rattle.language.proofs.Laws.Basics.Tests.{or_right, same_refl}
use Rattle.language.proofs.Laws.Grammar.Parses.{parses}
use Rattle.language.specs.Listed.{declared_name, flag}
use Rattle.language.proofs.Laws.Values.DistinctNames.{Apart, apart_sym, across, declared_names, distinct_signals}
use Rattle.language.proofs.Laws.Values.PortLaws.{PortFor, ports_for_lem, pairs-right, ports_distinct}
use Rattle.language.proofs.Laws.Values.SignalLaws.{entry_of}
use Rattle.language.proofs.Laws.Values.EntryLaws.{entry-flag}
use Rattle.language.proofs.Laws.Meaning.NumberedLaws.{numbered-at, atom_at, PortNumbered, entry-names}
use Rattle.language.proofs.Laws.Meaning.ListedSignals.{locate}
use Rattle.language.proofs.Laws.Meaning.TextPorts.{ports_numbered}
use Rattle.language.proofs.Laws.Meaning.ShiftLaws.{shifted_holds}

-- the walk over OUTPUTS finds what is declared there
declared-first : (m : Declaration) (ds : List Declaration) (x : List ℕ) → is_declared (m ∷ ds) x ≡ (same (declared_name m).text x || is_declared ds x)
declared-first (OneSignal y) ds x = refl
declared-first (OfWidth y e) ds x = refl
declared-first (OfType u y) ds x = refl

or_assoc : (a b c : Bool) → ((a || b) || c) ≡ (a || (b || c))
or_assoc true b c = refl
or_assoc false b c = refl

declared-append : (ds es : List Declaration) (x : List ℕ) → is_declared (ds ++ es) x ≡ (is_declared ds x || is_declared es x)
declared-append [] es x = refl
declared-append (m ∷ ds) es x =
    declared-first m (ds ++ es) x ∙ ap (λ (b : Bool). same (declared_name m).text x || b) (declared-append ds es x)
    ∙ sym (or_assoc (same (declared_name m).text x) (is_declared ds x) (is_declared es x)) ∙ ap (λ (b : Bool). b || is_declared es x) (sym (declared-first m ds x))

outputs-declared : (ss : List Subsection) (x : List ℕ) → is_output_name ss x ≡ is_declared (outputs ss) x
outputs-declared [] x = refl
outputs-declared (Inputs ds ∷ ss) x = outputs-declared ss x
outputs-declared (Outputs ds ∷ ss) x = ap (λ (b : Bool). is_declared ds x || b) (outputs-declared ss x) ∙ sym (declared-append ds (outputs ss) x)
outputs-declared (Lines q es ∷ ss) x = outputs-declared ss x

declared_apart : (n : Token) (ds : List Declaration) → All (Apart n) (declared_names ds) → is_declared ds n.text ≡ false
declared_apart n [] h = refl
declared_apart n (m ∷ ds) h =
    declared-first m ds n.text ∙ ap (λ (b : Bool). b || is_declared ds n.text) (apart_sym n (declared_name m) h.0) ∙ declared_apart n ds h.1

declared-own : (ds : List Declaration) → All (λ m. is_declared ds (declared_name m).text ≡ true) ds
declared-own [] = tt
declared-own (m ∷ ds) = (
  declared-first m ds (declared_name m).text ∙ ap (λ (b : Bool). b || is_declared ds (declared_name m).text) (same_refl (declared_name m).text),
  all_more (λ k h. declared-first m ds (declared_name k).text ∙ or_right (same (declared_name m).text (declared_name k).text) _ h) ds (declared-own ds),
)

-- what the walk says of a declaration, and of a port
abbrev Said : Spec → Bool → Declaration → Type 0
Said x output m = is_output_name x.main (declared_name m).text ≡ output

abbrev Sided : Spec → Port → Type 0
Sided x p = is_output_name x.main p.name.text ≡ p.output

inputs_said : (x : Spec) (ds : List Declaration) → All (λ n. All (Apart n) (declared_names (outputs x.main))) (declared_names ds) → All (Said x false) ds
inputs_said x [] h = tt
inputs_said x (m ∷ ds) h =
    (outputs-declared x.main (declared_name m).text ∙ declared_apart (declared_name m) (outputs x.main) h.0, inputs_said x ds h.1)

port_sided : (x : Spec) (output : Bool) (m : Declaration) (p : Port) → PortFor x.definitions output m p → Said x output m → Sided x p
port_sided x output m p f h = ap (λ (t : Token). is_output_name x.main t.text) f.named ∙ h ∙ sym f.flagged

name_at_lem : (x : List ℕ) (width i : ℕ) → name_of (atom_at x width i) ≡ x
name_at_lem x width i = go (eqb width 0)
  where
    go : (b : Bool) → name_of (if b then SignalOf x otherwise BitOf x i) ≡ x
    go true = refl
    go false = refl

flag-positive : (b : Bool) → ltb 0 (flag b) ≡ b
flag-positive true = refl
flag-positive false = refl

-- signals past the list's end are absent
numbered-past : (text list : List ℕ) (w : Word) (t k : ℕ) → length list ≤ k → numbered text list w t k ≡ false
numbered-past text [] w t k h = refl
numbered-past text (e ∷ es) w t zero h = absurd (omega arith)
numbered-past text (e ∷ es) w t (suc k) h = numbered-past text es w t k (omega arith)

either_false : (b p q : Bool) → p ≡ false → q ≡ false → ◌≡◌ {A = Bool} (elim b [ true ↦ p | false ↦ q ]) false
either_false true p q h k = h
either_false false p q h k = k

swapped : (b p q : Bool) → ◌≡◌ {A = Bool} (elim b [ true ↦ p | false ↦ q ]) (elim (not b) [ true ↦ q | false ↦ p ])
swapped true p q = refl
swapped false p q = refl

module _ (text : List ℕ) (x : Spec) (d : Declarations) (e : parsed text ≡ Done x) (hd : declarations x ≡ Done d) where
  abbrev ps : List Port
  ps = in_order d

  abbrev list : List ℕ
  list = signal_list (in_order d)

  ports_sided : All (Sided x) ps
  ports_sided =
      let f = ports_for_lem x d hd in
      let ins = inputs x.main in
      let outs = outputs x.main in
      let apart = across (declared_names ins) (declared_names outs) (distinct_signals x (parses e).formed.distinct) in
      all_append (Sided x) d.inputs d.outputs
      (pairs-right (port_sided x false) ins d.inputs f.ins (inputs_said x ins apart))
      (pairs-right (port_sided x true) outs d.outputs f.outs (all_more (λ m h. outputs-declared x.main (declared_name m).text ∙ h) outs (declared-own outs)))

  -- the two sides tell outputs alike
  sides_alike : (k : ℕ) → k < length list → is_output_name x.main (name_of (atom_of text (get_or list k 0))) ≡ is_output list k
  sides_alike k h =
      let L : Port → Type 0 = λ p. PortNumbered text ps p × Sided x p in
      let l = locate ps L (ports_distinct x d (parses e).formed.distinct hd) (all_both (λ p a b. (a, b)) ps (ports_numbered text x d e hd) ports_sided) k h in
      let p = l.port in
      let i = l.index in
      let placed = l.holds.0.placed in
      let offset = placed.offset in
      let narrow = placed.narrow in
      let small = l.small in
      let index : i < 2 ^ index_bits = omega arith in
      let width : p.width < 2 ^ width_bits = omega arith in
      let entry : get_or list k 0 ≡ entry_of p i = ap (λ (n : ℕ). get_or list n 0) l.place ∙ l.holds.0.listed.reads i small in
      ap (λ (n : ℕ). is_output_name x.main (name_of (atom_of text n))) entry
      ∙ ap (λ (a : Atom). is_output_name x.main (name_of a)) (entry-names text p placed i small)
      ∙ ap (is_output_name x.main) (name_at_lem p.name.text p.width i)
      ∙ l.holds.1
      ∙ sym (ap (λ (n : ℕ). ltb 0 (flag_of n)) entry ∙ ap (ltb 0) (entry-flag p.output offset index width) ∙ flag-positive p.output)

  module _ (w : Word) where
    -- a word whose outputs are read at position a, its inputs at position b
    abbrev mixed : ℕ → ℕ → Atom → Bool
    mixed a b s = elim (is_output_name x.main (name_of s)) [ true ↦ w a s | false ↦ w b s ]

    mixed-at : (u : Word) (a b t k : ℕ) → ((s : Atom) → u t s ≡ mixed a b s)
        → numbered text list u t k ≡ elim (is_output list k) [ true ↦ numbered text list w a k | false ↦ numbered text list w b k ]
    mixed-at u a b t k r = go (dec_lt k (length list))
      where
        go : Dec (k < length list) → numbered text list u t k ≡ elim (is_output list k) [ true ↦ numbered text list w a k | false ↦ numbered text list w b k ]
        go (yes h) =
            let s = atom_of text (get_or list k 0) in
            numbered-at text list u t k h ∙ r s
            ∙ ap (λ (c : Bool). elim c [ true ↦ w a s | false ↦ w b s ]) (sides_alike k h)
            ∙ ap (λ (q : Bool). elim (is_output list k) [ true ↦ q | false ↦ w b s ]) (sym (numbered-at text list w a k h))
            ∙ ap (λ (q : Bool). elim (is_output list k) [ true ↦ numbered text list w a k | false ↦ q ]) (sym (numbered-at text list w b k h))
        go (no h) =
            numbered-past text list u t k (omega arith)
            ∙ sym (either_false (is_output list k) _ _ (numbered-past text list w a k (omega arith)) (numbered-past text list w b k (omega arith)))

    -- a text's formula, converted, holds where the formula holds in the word that the text is read on
    pub adapted-holds : (m n : Model) (f : Formula) → Same (Holds f (numbered text list (read_as m n x.main w))) (Holds (adapted m n list f) (numbered text list w))
    adapted-holds Mealy Mealy f t = Equiv.rfl
    adapted-holds Mealy Moore f t =
        shifted_holds (is_output list) _ (numbered text list w) (λ t k. mixed-at (read_as Mealy Moore x.main w) (suc t) t t k (λ s. refl)) f t
    adapted-holds Moore Mealy f t =
        shifted_holds (λ k. not (is_output list k)) _ (numbered text list w)
        (λ t k. mixed-at (read_as Moore Mealy x.main w) t (suc t) t k (λ s. refl) ∙ swapped (is_output list k) _ _) f t
    adapted-holds Moore Moore f t = Equiv.rfl
