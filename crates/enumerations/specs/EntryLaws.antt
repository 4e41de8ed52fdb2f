-- The pass finds the first bad word of a text, whatever tree the entries hold.
use Rattle.std.specs.Prelude.{ℕ, suc, List, [], ◌∷◌, ◌++◌, true, ◌≡◌, refl}
use Rattle.std.proofs.Common.{append-nil, append_assoc, sym, ap, ◌∙◌, subst, arith, ne_eqb}
use Rattle.std.proofs.Math.Option.{Option, none, some}
use Rattle.std.proofs.Math.Dec.{eqb}
use Rattle.language.specs.Tokens.{Marks, Token, is_of}
use Rattle.language.specs.Tree.{
  Expr,
  Named,
  Identifier,
  Definition,
  Defined,
  Enumerated,
  Parameter,
  Declaration,
  OneSignal,
  OfWidth,
  OfType,
  Subsection,
  Inputs,
  Outputs,
  Lines,
  Spec,
}
use Rattle.language.specs.Grammar.{Tokens}
use Rattle.language.specs.Places.{first, first_in}
use Rattle.language.specs.Words.{bad_words, wrong_words}
use Rattle.language.proofs.Laws.Basics.Lists.{All, all_more, all_append, all_right}
use Rattle.language.proofs.Laws.Basics.Tests.{pick, leave}
use Rattle.language.proofs.Laws.Basics.NoPlace.{first_none, first_assoc}
use Rattle.entries.specs.Kinds as Kind
use Rattle.entries.specs.Flat.{Entry, under, leaf, flat, each, flat_parameter, flat_identifier, flat_definition, flat_declaration, flat_line, flat_subsection, outline}
use Rattle.entries.specs.FlatLaws.{all-each, flat-inside}
use Rattle.traversal.specs.declared.Cell.{Cell}
use Rattle.traversal.specs.Cells.{Seen, cell_at, TokensTell}
use Rattle.traversal.specs.CellLaws.{entries-seen}
use Rattle.traversal.specs.PassLaws.{run}
use Rattle.traversal.specs.PassedLaws.{passed-all}
use Rattle.traversal.specs.Places.{Place, placed}
use Rattle.traversal.specs.TreeStored.{TreeStored}
use Rattle.enumerations.specs.Given.{Spells, GoodDefinition}
use Rattle.enumerations.specs.Promise.{WrongWords}
use Rattle.enumerations.specs.Scan.{Word, owned, words_from}
use Rattle.enumerations.specs.ScanLaws.{scan-finds}
use Rattle.enumerations.specs.Pass.{State, word, begun, named, step}
use Rattle.enumerations.specs.WordLaws.{Pending, pending_begin, pending_name, pending_word, pending_end}
use Rattle.enumerations.specs.Running.{begin, after}

module _ (text : List ℕ) where
  -- entries that the pass goes by
  abbrev Quiet : Entry → Type 0
  Quiet e = (c : Cell) (s : State) → c.kind ≡ e.kind → step text c s ≡ s

  quiet : (k : ℕ) → (k ≡ Kind.enumeration → ⊥) → (k ≡ Kind.identifier → ⊥) → (k ≡ Kind.word → ⊥) → (c : Cell) (s : State) → c.kind ≡ k → step text c s ≡ s
  unfolding step
  quiet k e f g c s h =
      leave (eqb c.kind Kind.enumeration) _ _ (ne_eqb _ _ (λ z. e (sym h ∙ z))) ∙ leave (eqb c.kind Kind.identifier) _ _ (ne_eqb _ _ (λ z. f (sym h ∙ z)))
      ∙ leave (eqb c.kind Kind.word) _ _ (ne_eqb _ _ (λ z. g (sym h ∙ z)))

  join : (es fs : List Entry) → All Quiet es → All Quiet fs → All Quiet (es ++ fs)
  join es fs h g = all_append Quiet es fs h g

  quiet_under : (k : ℕ) (t : Option Token) (es : List Entry) → ((c : Cell) (s : State) → c.kind ≡ k → step text c s ≡ s) → All Quiet es → All Quiet (under k t es)
  quiet_under k t es q h = join es _ h (q, tt)

  quiet_flat : (e : Expr) → All Quiet (flat e)
  quiet_flat e = all_more (λ n l. quiet n.kind (λ z. omega arith) (λ z. omega arith) (λ z. omega arith)) (flat e) (flat-inside e)

  quiet_declaration : (d : Declaration) → All Quiet (flat_declaration d)
  quiet_declaration (OneSignal x) = (quiet Kind.signal (λ z. omega arith) (λ z. omega arith) (λ z. omega arith), tt)
  quiet_declaration (OfWidth x e) = quiet_under Kind.bus (some x) (flat e) (quiet Kind.bus (λ z. omega arith) (λ z. omega arith) (λ z. omega arith)) (quiet_flat e)
  quiet_declaration (OfType u x) = quiet_under Kind.typed (some x) (leaf Kind.named u) (quiet Kind.typed (λ z. omega arith) (λ z. omega arith) (λ z. omega arith)) (quiet_flat (Named u))

  quiet_parameter : (p : Parameter) → All Quiet (flat_parameter p)
  quiet_parameter p = quiet_under Kind.parameter (some p.name) (flat p.value) (quiet Kind.parameter (λ z. omega arith) (λ z. omega arith) (λ z. omega arith)) (quiet_flat p.value)

  quiet_line : (e : Expr) → All Quiet (flat_line e)
  quiet_line e = quiet_under Kind.line none (flat e) (quiet Kind.line (λ z. omega arith) (λ z. omega arith) (λ z. omega arith)) (quiet_flat e)

  quiet_subsection : (s : Subsection) → All Quiet (flat_subsection s)
  quiet_subsection (Inputs ds) = (quiet Kind.heading (λ z. omega arith) (λ z. omega arith) (λ z. omega arith), all-each Quiet flat_declaration quiet_declaration ds)
  quiet_subsection (Outputs ds) = (quiet Kind.heading (λ z. omega arith) (λ z. omega arith) (λ z. omega arith), all-each Quiet flat_declaration quiet_declaration ds)
  quiet_subsection (Lines p es) = (quiet Kind.heading (λ z. omega arith) (λ z. omega arith) (λ z. omega arith), all-each Quiet flat_line quiet_line es)

  step-begun : (c : Cell) (s : State) → c.kind ≡ Kind.enumeration → step text c s ≡ begun s
  unfolding step
  step-begun c s e = pick (eqb c.kind Kind.enumeration) _ _ (ap (λ k. eqb k Kind.enumeration) e)

  step-named : (c : Cell) (s : State) → c.kind ≡ Kind.identifier → step text c s ≡ named s
  unfolding step
  step-named c s e = leave (eqb c.kind Kind.enumeration) _ _ (ap (λ k. eqb k Kind.enumeration) e) ∙ pick (eqb c.kind Kind.identifier) _ _ (ap (λ k. eqb k Kind.identifier) e)

  step-word : (c : Cell) (s : State) → c.kind ≡ Kind.word → step text c s ≡ word text c.token s
  unfolding step
  step-word c s e =
      leave (eqb c.kind Kind.enumeration) _ _ (ap (λ k. eqb k Kind.enumeration) e) ∙ leave (eqb c.kind Kind.identifier) _ _ (ap (λ k. eqb k Kind.identifier) e)
      ∙ pick (eqb c.kind Kind.word) _ _ (ap (λ k. eqb k Kind.word) e)

  module _ (cell : ℕ → Cell) where
    abbrev passing : List Entry → ℕ → State → State
    passing es i s = run (step text) cell es i s

    -- the pass comes to the entries rs in a state that has the property P
    record Comes (P : State → Type 0) (es : List Entry) (i : ℕ) (s : State) (rs : List Entry) : Type 0 where
      at : ℕ
      state : State
      seen : Seen (Spells text) cell at rs
      runs : passing es i s ≡ passing rs at state
      holds : P state

    by-quiet : (us es : List Entry) (i : ℕ) (s : State) → All Quiet us → Seen (Spells text) cell i (us ++ es) → Comes (λ t. t ≡ s) (us ++ es) i s es
    by-quiet [] es i s q h = record { at = i; state = s; seen = h; runs = refl; holds = refl }
    by-quiet (e ∷ us) es i s q h =
        let more = by-quiet us es (suc i) s q.1 h.1 in
        record { at = more.at; state = more.state; seen = more.seen; runs = ap (passing (us ++ es) (suc i)) (q.0 (cell i) s h.0.kind) ∙ more.runs; holds = more.holds }

    words-run : {f r : Option ℕ} (o : ℕ) (ws : List Token) (vs : List Word) (es : List Entry) (i : ℕ) (s : State) → All (λ (v : Word). is_of Marks v.token ≡ true) (owned o ws)
        → Pending f r o s (owned o ws ++ vs) → Seen (Spells text) cell i (each (leaf Kind.word) ws ++ es) →
        Comes (λ t. Pending f r o t vs) (each (leaf Kind.word) ws ++ es) i s es
    words-run o [] vs es i s m p h = record { at = i; state = s; seen = h; runs = refl; holds = p }
    words-run {f} {r} o (w ∷ ws) vs es i s m p h =
        let v : Word = record { owner = o; token = w } in
        let c = cell i in
        let next = pending_word text c.token v (h.0.token m.0) refl p in
        let more = words-run o ws vs es (suc i) (word text c.token s) m.1 next h.1 in
        record { at = more.at; state = more.state; seen = more.seen; runs = ap (passing (each (leaf Kind.word) ws ++ es) (suc i)) (step-word c s h.0.kind) ∙ more.runs; holds = more.holds }

    abbrev AllMarks : List Word → Type 0
    AllMarks vs = All (λ (v : Word). is_of Marks v.token ≡ true) vs

    marks-left : (us vs : List Word) → AllMarks (us ++ vs) → AllMarks us
    marks-left [] vs h = tt
    marks-left (u ∷ us) vs h = (h.0, marks-left us vs h.1)

    identifiers-run : {f r : Option ℕ} (o : ℕ) (is : List Identifier) (es : List Entry) (i : ℕ) (s : State) → AllMarks (words_from (suc o) is) → Pending f r o s (words_from (suc o) is)
        → Seen (Spells text) cell i (each flat_identifier is ++ es) →
        Comes (λ t. t.found ≡ first f r) (each flat_identifier is ++ es) i s es
    identifiers-run o [] es i s m p h = record { at = i; state = s; seen = h; runs = refl; holds = pending_end p }
    identifiers-run {f} {r} o (x ∷ is) es i s m p h =
        let ws = x.words in
        let vs = words_from (suc (suc o)) is in
        let assoc = append_assoc (each (leaf Kind.word) ws) (each flat_identifier is) es in
        let one = words-run (suc o) ws vs (each flat_identifier is ++ es) (suc i) (named s) (marks-left (owned (suc o) ws) vs m) (pending_name p) (subst (Seen (Spells text) cell (suc i)) assoc h.1)
        in
        let more = identifiers-run (suc o) is es one.at one.state (all_right (λ (v : Word). is_of Marks v.token ≡ true) (owned (suc o) ws) vs m) one.holds one.seen in
        record {
          at = more.at;
          state = more.state;
          seen = more.seen;
          runs = ap (passing ((each (leaf Kind.word) ws ++ each flat_identifier is) ++ es) (suc i)) (step-named (cell i) s h.0.kind) ∙ ap (λ us. passing us (suc i) (named s)) assoc ∙ one.runs ∙
              more.runs;
          holds = more.holds;
        }

    definition-run : (d : Definition) (es : List Entry) (i : ℕ) (s : State) → GoodDefinition d → Seen (Spells text) cell i (flat_definition d ++ es)
        → Comes (λ t. t.found ≡ first s.found (bad_words d)) (flat_definition d ++ es) i s es
    definition-run (Defined x e) es i s g h =
        let past = by-quiet (under Kind.definition (some x) (flat e)) es i s
        (quiet_under Kind.definition (some x) (flat e) (quiet Kind.definition (λ z. omega arith) (λ z. omega arith) (λ z. omega arith)) (quiet_flat e)) h in
        record { at = past.at; state = past.state; seen = past.seen; runs = past.runs; holds = ap (λ (t : State). t.found) past.holds ∙ sym (first_none s.found) }
    definition-run (Enumerated x is) es i s g h =
        let past = identifiers-run 0 is es (suc i) (begun s) g.marks (pending_begin s (words_from 1 is)) h.1 in
        record {
          at = past.at;
          state = past.state;
          seen = past.seen;
          runs = ap (passing (each flat_identifier is ++ es) (suc i)) (step-begun (cell i) s h.0.kind) ∙ past.runs;
          holds = past.holds ∙ ap (first s.found) (scan-finds 1 is g.ascend);
        }

    definitions-run : (ds : List Definition) (es : List Entry) (i : ℕ) (s : State) → All GoodDefinition ds → Seen (Spells text) cell i (each flat_definition ds ++ es)
        → Comes (λ t. t.found ≡ first s.found (first_in bad_words ds)) (each flat_definition ds ++ es) i s es
    definitions-run [] es i s g h = record { at = i; state = s; seen = h; runs = refl; holds = sym (first_none s.found) }
    definitions-run (d ∷ ds) es i s g h =
        let assoc = append_assoc (flat_definition d) (each flat_definition ds) es in
        let one = definition-run d (each flat_definition ds ++ es) i s g.0 (subst (Seen (Spells text) cell i) assoc h) in
        let more = definitions-run ds es one.at one.state g.1 one.seen in
        record {
          at = more.at;
          state = more.state;
          seen = more.seen;
          runs = ap (λ us. passing us i s) assoc ∙ one.runs ∙ more.runs;
          holds = more.holds ∙ ap (λ o. first o (first_in bad_words ds)) one.holds ∙ first_assoc s.found (bad_words d) (first_in bad_words ds);
        }

    text-run : (x : Spec) → All GoodDefinition x.definitions → Seen (Spells text) cell 0 (outline x) → (passing (outline x) 0 begin).found ≡ wrong_words x
    text-run x g h =
        let params = each flat_parameter x.parameters in
        let defs = each flat_definition x.definitions in
        let subs = each flat_subsection x.main in
        let a = by-quiet params (defs ++ subs) 0 begin (all-each Quiet flat_parameter quiet_parameter x.parameters) h in
        let b = definitions-run x.definitions subs a.at a.state g a.seen in
        let c = by-quiet subs [] b.at b.state (all-each Quiet flat_subsection quiet_subsection x.main) (subst (Seen (Spells text) cell b.at) (sym (append-nil subs)) b.seen) in
        ap (λ (t : State). t.found) (a.runs ∙ b.runs ∙ ap (λ us. passing us b.at b.state) (sym (append-nil subs)) ∙ c.runs)
        ∙ ap (λ (t : State). t.found) c.holds ∙ b.holds ∙ ap (λ (t : State). first t.found (wrong_words x)) a.holds

-- refusal 10
pub finds-bad : (text w : List ℕ) (ts : Tokens) (n : ℕ) (x : Spec) → TokensTell (Spells text) w ts → TreeStored w ts n x → All GoodDefinition x.definitions → (after text w n).found ≡ wrong_words x
finds-bad text w ts n x told t g =
    ap (λ (s : State). s.found) (passed-all (step text) (cell_at w) begin (outline x) n t.count) ∙ text-run text (cell_at w) x g (entries-seen (Spells text) w ts told 0 (outline x) t.entries)

-- so the stage keeps its promise
pub promised : (text w : List ℕ) (n : ℕ) {r : Place} → r ≡ placed (after text w n).found → WrongWords text w n r
unfolding WrongWords
promised text w n e ts x told t g = e ∙ ap placed (finds-bad text w ts n x told t g)
