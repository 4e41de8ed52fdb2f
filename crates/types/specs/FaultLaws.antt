-- The first wrong place in every part of a tree, from those in its operands and what it takes.
use Rattle.std.specs.Prelude.{ℕ, List, ◌∷◌, map, true, false, ◌≡◌, refl, eqb, ltb, get_or}
use Rattle.std.proofs.lemmas.Simd.{map-map}
use Rattle.std.proofs.lemmas.Bool.{false≢true}
use Rattle.std.proofs.Math.Option.{Option, none}
use Rattle.std.proofs.Common.{sym, ap, ap₂, ◌∙◌, arith}
use Rattle.language.specs.Tree.{Expr, Named, Numeral, Truth, Index, Paren, Prefixed, Joined, Nexts, InWindow, Each, Between, Listed, Empty, Element, Range}
use Rattle.language.specs.Places.{start, first, first_in, unless}
use Rattle.language.specs.Names.{Names}
use Rattle.language.specs.Types.{ANumber, ASet, AFormula, ABus, type_code, is_type, Typings, type_in, prefix_takes, big_gives, with_number, type_of, wrong, wrong_both, wrong_operands, mistyped}
use Rattle.language.proofs.Laws.Basics.NoPlace.{first_none, first_assoc, first_comm}
use Rattle.entries.specs.Kinds as EntryKind
use Rattle.traversal.specs.declared.Cell.{Cell}
use Rattle.traversal.specs.Arity.{first_line}
use Rattle.traversal.specs.Cells.{Sees}
use Rattle.traversal.specs.Parts.{Part, Whole, Binder, operands_of, kind_of}
use Rattle.traversal.specs.PartLaws.{unless-cases}
use Rattle.traversal.specs.PassLaws.{own_entry}
use Rattle.traversal.specs.Starts.{start_part}
use Rattle.types.specs.Codes.{takes_any, takes_index}
use Rattle.types.specs.Kinds.{last_takes, other_takes, indexed, place_of, reference_of, type_at}
use Rattle.types.specs.Pass.{Operand, wrong_at, fault}
use Rattle.types.specs.Known.{Resolved}
use Rattle.types.specs.Opened.{open_past}
use Rattle.types.specs.TakeLaws.{Takes, none_wrong, any_wrong, one-wrong, two-wrong, three-wrong, second-wrong, last-wrong, more-wrong, unindexed, on_bus}
use Rattle.types.specs.OperatorLaws.{truth-takes, before-takes, window-takes, big-takes, binder-takes, between-takes, joining-wrong, joining_unindexed}
use Rattle.types.specs.NodeLaws.{type_part, value, bad, Good, name-known, one_place, two-places, three-places}

-- a kind that takes anything
pub free : (k : ℕ) → get_or other_takes k 0 ≡ takes_any → get_or last_takes k 0 ≡ takes_any → eqb k EntryKind.element ≡ false → Takes k takes_any takes_any
free k o l e = record { others = o; final = l; plain = e }

index : Takes EntryKind.index takes_index (type_code ANumber)
index = record { others = refl; final = refl; plain = refl }

nexts : Takes EntryKind.nexts (type_code ANumber) (type_code AFormula)
nexts = record { others = refl; final = refl; plain = refl }

range : Takes EntryKind.range (type_code ANumber) (type_code ANumber)
range = record { others = refl; final = refl; plain = refl }

abbrev code : Typings → Expr → ℕ
code ys e = type_code (type_of ys e)

both-places : (m n w : Option ℕ) → first (first m (first n none)) w ≡ first w (first m n)
both-places m n w = ap (λ l. first (first m l) w) (first_none n) ∙ first_comm (first m n) w

module _ (declared : Names) (table : List ℕ) where
  abbrev name_type : ℕ → ℕ
  name_type x = type_at table (reference_of x)

  -- an entry that is no index
  quiet : (x : ℕ) {k o l : ℕ} {w v : Option ℕ} → Takes k o l → (o ≡ takes_index → ⊥) → w ≡ v → first (indexed k (name_type x) (place_of x)) w ≡ v
  quiet x {k} h n e = ap₂ first (unindexed k (name_type x) (place_of x) (λ z. n (sym h.others ∙ z))) e

  loud : (x : ℕ) {w v : Option ℕ} → w ≡ v → first (indexed EntryKind.element (name_type x) (place_of x)) w ≡ v
  loud x e = ap₂ first (unindexed EntryKind.element (name_type x) (place_of x) (λ z. omega arith)) e

  -- what the entry of a part with these operands finds, and what stands in the operands
  abbrev finds : ℕ → ℕ → List (Part Typings) → Option ℕ
  finds k x qs = first (first_in bad qs) (first (indexed k (name_type x) (place_of x)) (wrong_at k (map type_part qs) (map start_part qs)))

  part-fault : (bs : Names) (q : Part Typings) (x : ℕ) → Good declared table bs q → Resolved declared (open_past bs q) x (own_entry with_number q) → ltb (kind_of q) first_line ≡ true
      → finds (kind_of q) x (operands_of with_number q) ≡ bad q
  part-fault bs (Whole ys (Named t)) x g h i = quiet x (free _ refl refl refl) (λ z. omega arith) (none_wrong (free _ refl refl refl) (λ z. omega arith))
  part-fault bs (Whole ys (Numeral t)) x g h i = quiet x (free _ refl refl refl) (λ z. omega arith) (none_wrong (free _ refl refl refl) (λ z. omega arith))
  part-fault bs (Whole ys (Truth t b)) x g h i = quiet x truth-takes (λ z. omega arith) (none_wrong truth-takes (λ z. omega arith))
  part-fault bs (Whole ys (Index t e)) x g h i =
      let b : Option ℕ = unless (is_type ABus (type_in ys t)) t.at in
      ap (first (first (mistyped ys e) none)) (ap₂ first (on_bus (name_type x) (place_of x) ∙ ap₂ (λ j p. unless (eqb (type_code ABus) j) p) (name-known declared table ys h refl g.0) h.place)
      (one-wrong ANumber (code ys e) (start e) index (λ z. omega arith)))
      ∙ one_place (mistyped ys e) (first b (wrong ANumber ys e)) ∙ first_assoc b (wrong ANumber ys e) (mistyped ys e)
  part-fault bs (Whole ys (Paren t e)) x g h i = ap (first (first (mistyped ys e) none))
      (quiet x (free _ refl refl refl) (λ z. omega arith) (any_wrong (code ys e) (start e) (free _ refl refl refl) (λ z. omega arith))) ∙ first_none (first (mistyped ys e) none) ∙ first_none
      (mistyped ys e)
  part-fault bs (Whole ys (Prefixed t o e)) x g h i =
      ap (first (first (mistyped ys e) none)) (quiet x (before-takes o) (λ z. omega arith) (one-wrong (prefix_takes o) (code ys e) (start e) (before-takes o) (λ z. omega arith))) ∙ one_place
      (mistyped ys e) (wrong (prefix_takes o) ys e)
  part-fault bs (Whole ys (Joined t o a b)) x g h i =
      ap (first (first (mistyped ys a) (first (mistyped ys b) none))) (ap₂ first (unindexed (EntryKind.joining o) (name_type x) (place_of x) (joining_unindexed o)) (joining-wrong ys o a b))
      ∙ both-places (mistyped ys a) (mistyped ys b) (wrong_operands ys o a b)
  part-fault bs (Whole ys (Nexts t n e)) x g h i =
      ap (first (first (mistyped ys n) (first (mistyped ys e) none))) (quiet x nexts (λ z. omega arith) (two-wrong ANumber AFormula (code ys n) (code ys e) (start n) (start e) nexts))
      ∙ two-places (mistyped ys n) (mistyped ys e) (wrong ANumber ys n) (wrong AFormula ys e)
  part-fault bs (Whole ys (InWindow t o n m e)) x g h i =
      ap (first (first (mistyped ys n) (first (mistyped ys m) (first (mistyped ys e) none))))
      (quiet x window-takes (λ z. omega arith) (three-wrong ANumber AFormula (code ys n) (code ys m) (code ys e) (start n) (start m) (start e) window-takes))
      ∙ three-places (mistyped ys n) (mistyped ys m) (mistyped ys e) (wrong ANumber ys n) (wrong ANumber ys m) (wrong AFormula ys e)
  part-fault bs (Whole ys (Each t o further j s e)) x g h i =
      let zs = with_number j ys in
      let set : Option ℕ = bad (Binder ys further j s) in
      ap (first (first set (first (mistyped zs e) none))) (quiet x (big-takes o) (λ z. omega arith)
      (second-wrong (big_gives o) (type_code ASet) (code zs e) (EntryKind.binder further) (start e) (big-takes o)))
      ∙ ap (λ m. first (first set m) (wrong (big_gives o) zs e)) (first_none (mistyped zs e)) ∙ first_assoc set (mistyped zs e) (wrong (big_gives o) zs e) ∙ ap (first set)
      (first_comm (mistyped zs e) (wrong (big_gives o) zs e))
  part-fault bs (Whole ys (Between t l u a b)) x g h i =
      ap (first (first (mistyped ys a) (first (mistyped ys b) none)))
      (quiet x (between-takes u) (λ z. omega arith) (two-wrong ANumber ANumber (code ys a) (code ys b) (start a) (start b) (between-takes u)))
      ∙ both-places (mistyped ys a) (mistyped ys b) (wrong_both ANumber ys a b)
  part-fault bs (Whole ys (Listed t es)) x g h i =
      unless-cases (Whole ys) (λ e qs. finds EntryKind.listed x qs ≡ mistyped ys e) (quiet x (free _ refl refl refl) (λ z. omega arith) (none_wrong (free _ refl refl refl) (λ z. omega arith)))
      (λ e. ap (first (first (mistyped ys e) none)) (quiet x (free _ refl refl refl) (λ z. omega arith) (any_wrong (code ys e) (start e) (free _ refl refl refl) (λ z. omega arith))) ∙ first_none
      (first (mistyped ys e) none) ∙ first_none (mistyped ys e))
      es
  part-fault bs (Whole ys Empty) x g h i = absurd (false≢true i)
  part-fault bs (Whole ys (Element e es)) x g h i =
      unless-cases (Whole ys) (λ d qs. finds EntryKind.element x (Whole ys e ∷ qs) ≡ first (first (wrong ANumber ys e) (mistyped ys e)) (mistyped ys d))
      (ap (first (first (mistyped ys e) none)) (loud x (last-wrong (code ys e) (start e))) ∙ one_place (mistyped ys e) (wrong ANumber ys e) ∙ sym
      (first_none (first (wrong ANumber ys e) (mistyped ys e))))
      (λ d. ap (first (first (mistyped ys e) (first (mistyped ys d) none))) (loud x (more-wrong (code ys e) (code ys d) (start e) (start d)))
      ∙ both-places (mistyped ys e) (mistyped ys d) (wrong ANumber ys e) ∙ sym (first_assoc (wrong ANumber ys e) (mistyped ys e) (mistyped ys d)))
      es
  part-fault bs (Whole ys (Range t a b c)) x g h i =
      ap (first (first (mistyped ys a) (first (mistyped ys b) (first (mistyped ys c) none))))
      (quiet x range (λ z. omega arith) (three-wrong ANumber ANumber (code ys a) (code ys b) (code ys c) (start a) (start b) (start c) range))
      ∙ three-places (mistyped ys a) (mistyped ys b) (mistyped ys c) (wrong ANumber ys a) (wrong ANumber ys b) (wrong ANumber ys c)
  part-fault bs (Binder ys further j s) x g h i =
      ap (first (first (mistyped ys s) none)) (quiet x (binder-takes further) (λ z. omega arith) (one-wrong ASet (code ys s) (start s) (binder-takes further) (λ z. omega arith))) ∙ one_place
      (mistyped ys s) (wrong ASet ys s)

  pub faults : (bs : Names) (q : Part Typings) (c : Cell) → Good declared table bs q → Sees (Resolved declared (open_past bs q)) c (own_entry with_number q) → ltb (kind_of q) first_line ≡ true →
      first (first_in bad (operands_of with_number q)) (fault table c (map value (operands_of with_number q))) ≡ bad q
  faults bs q c g z i =
      let qs = operands_of with_number q in
      ap (first (first_in bad qs))
      (ap₂ (λ ks ss. first (indexed c.kind (name_type c.token) (place_of c.token)) (wrong_at c.kind ks ss)) (map-map (λ (x : Operand). x.type) value qs)
      (map-map (λ (x : Operand). x.start) value qs)
      ∙ ap (λ k. first (indexed k (name_type c.token) (place_of c.token)) (wrong_at k (map type_part qs) (map start_part qs))) z.kind)
      ∙ part-fault bs q c.token g z.token i
