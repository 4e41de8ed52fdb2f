-- How an operand begins: what the grammar reads from its first token on is what the frame that is pushed makes of the part read next.
use Rattle.std.specs.Prelude.{ℕ, suc, ◌<◌, Bool, ◌||◌, ◌≡◌, leb, length}
use Prim.Native.String.{String}
use Rattle.std.proofs.Common.{arith, ◌∙◌}
use Rattle.std.proofs.Math.Bool.{true, false}
use Rattle.std.proofs.Math.Option.{none, some}
use Rattle.std.proofs.Math.Path.{refl, ap}
use Rattle.std.proofs.Math.Dec.{eqb}
use borrow.Author.Tests.{ne_eqb}
use Rattle.node.specs.Result.{Done, Refused, ◌>>=◌}
use Rattle.node.proofs.ResultLaws.{bind_again, bind_at, bind_where}
use Rattle.language.specs.Tokens.{Name, Numeral as Digits, Token}
use Rattle.language.specs.Operators.{Size, Measures, PrefixRow, loosest}
use Rattle.language.specs.Tree.{Expr, Named, Numeral, Truth, Index, Paren, Prefixed, Listed, Empty, Element, Range}
use Rattle.language.specs.Grammar.{Tokens, Read, front, rest, stop, next, expect, closed_by, elements, set_of, after_one, after_two, role_of, name_of, atom_of, operand_by}
use Rattle.language.proofs.Laws.Basics.Tests.{pick, leave}
use Rattle.lexer.specs.Numbers.{number, fixed, class_number as tokenNumber}
use Rattle.lexer.specs.NumberLaws.{is_number, class_number_lem}
use Rattle.operators.specs.Readers.{reads, climbs, prefix_row, listed}
use Rattle.expressions.specs.ReaderLaws.{reads-step, reads-takes, rest-fits}
use Rattle.expressions.specs.ListLaws.{elements-listed}
use Rattle.expressions.specs.Classes.{Round, Bars, Square, One, Two}
use Rattle.expressions.specs.Frames.{frame, with_first, resume, one, two}

-- an expression by what Table 1 says of its first token
module _ (max : ℕ) (ts : Tokens) where
  pub reads_atom : prefix_row (front ts) ≡ none → reads max ts ≡ (atom_of (length ts) reads (front ts) (rest ts) >>= λ (e, us). climbs max e us)
  unfolding prefix_row
  reads_atom h = reads-step max ts ∙ ap (λ o. operand_by (length ts) reads max (front ts) o (rest ts) >>= λ (e, us). climbs max e us) h

  by_row : (r : PrefixRow) → prefix_row (front ts) ≡ some r → (b : Bool) → leb r.level max ≡ b
      → reads max ts ≡ (elim b [ true ↦ role_of (length ts) reads (front ts) r.level r.role (rest ts) | false ↦ Refused 4 (front ts).at ] >>= λ (e, us). climbs max e us)
  unfolding prefix_row
  by_row r h b l =
      reads-step max ts
      ∙ ap (λ o. operand_by (length ts) reads max (front ts) o (rest ts) >>= λ (e, us). climbs max e us) h
      ∙ ap (λ (c : Bool). elim c [ true ↦ role_of (length ts) reads (front ts) r.level r.role (rest ts) | false ↦ Refused 4 (front ts).at ] >>= λ (e, us). climbs max e us) l

  pub reads_role : (r : PrefixRow) → prefix_row (front ts) ≡ some r → leb r.level max ≡ true
      → reads max ts ≡ (role_of (length ts) reads (front ts) r.level r.role (rest ts) >>= λ (e, us). climbs max e us)
  reads_role r h l = by_row r h true l

  -- an operator that is too loose here
  pub reads_loose : (r : PrefixRow) → prefix_row (front ts) ≡ some r → leb r.level max ≡ false → reads max ts ≡ stop ts
  unfolding ◌>>=◌
  reads_loose r h l = by_row r h false l

-- an operand that begins with no operator, by the tests on its first token
abbrev atom_by : ℕ → Token → Tokens → (name digits truth falsehood round bars brace : Bool) → Read Expr
atom_by f t ts name digits truth falsehood round bars brace =
    elim name [
      | true ↦ name_of reads t ts
      | false ↦ elim digits [
        | true ↦ Done (Numeral t, ts)
        | false ↦ elim (truth || falsehood) [
          | true ↦ Done (Truth t truth, ts)
          | false ↦ elim round [
            | true ↦ closed_by reads ")" ts >>= λ (e, ts). Done (Paren t e, ts)
            | false ↦ elim bars [
              | true ↦ closed_by reads "|" ts >>= λ (e, ts). Done (Prefixed t (Measures Size) e, ts)
              | false ↦ elim brace [ true ↦ set_of f reads t ts | false ↦ Refused 4 t.at ]
            ]
          ]
        ]
      ]
    ]

-- and by its number
abbrev atom_at : ℕ → ℕ → Token → Tokens → Read Expr
atom_at f n t ts = atom_by f t ts (eqb n (tokenNumber Name)) (eqb n (tokenNumber Digits)) (eqb n (fixed "true")) (eqb n (fixed "false")) (eqb n (fixed "(")) (eqb n (fixed "|")) (eqb n (fixed "{"))

same_tests : {A : Type 0} (g : Bool → Bool → Bool → Bool → Bool → Bool → Bool → A) {a b c d e p q a' b' c' d' e' p' q' : Bool} → a ≡ a' → b ≡ b' → c ≡ c' → d ≡ d' → e ≡ e' → p ≡ p' → q ≡ q'
    → g a b c d e p q ≡ g a' b' c' d' e' p' q'
same_tests g h i j k l m n = cc

atom_number : (f : ℕ) (t : Token) (ts : Tokens) → atom_of f reads t ts ≡ atom_at f (number t) t ts
atom_number f t ts =
    same_tests (atom_by f t ts) (class_number_lem Name t refl) (class_number_lem Digits t refl) (is_number "true" t refl) (is_number "false" t refl) (is_number "(" t refl) (is_number "|" t refl)
    (is_number "{" t refl)

-- the numbers of the tokens that begin an operand and are no operators
abbrev pub starter : ℕ → Bool
starter n = eqb n (tokenNumber Name) || (eqb n (tokenNumber Digits) || (eqb n (fixed "true") || (eqb n (fixed "false") || (eqb n (fixed "(") || (eqb n (fixed "|") || eqb n (fixed "{"))))))

-- brackets around an expression
closed-start : (max : ℕ) (s : String) (w : Expr → Expr) (ts : Tokens)
    → ((closed_by reads s ts >>= λ (e, us). Done (w e, us)) >>= λ (e, us). climbs max e us) ≡ (reads loosest ts >>= λ (x, us). expect s us >>= λ (c, vs). climbs max (w x) vs)
closed-start max s w ts =
    bind_again (closed_by reads s ts) _ _
    ∙ bind_again (reads loosest ts) _ _
    ∙ bind_where (reads loosest ts) _ _
    (λ (x, us) _. bind_again (expect s us) _ _ ∙ bind_where (expect s us) _ _ (λ (c, vs) _. bind_at (x, vs) _ ∙ bind_at (w x, vs) _))

-- a set, from its first element on
module _ (max f : ℕ) (t : Token) (x : Expr) where
  after_two_lem : (y : Expr) (ts : Tokens) → length ts < f → (after_two f reads t x y ts >>= λ (e, us). climbs max e us) ≡ two (with_first Two (frame One max t) x) y ts
  unfolding listed
  after_two_lem y ts h = go (next ".." ts)
    where
      go : (b : Bool)
          → (elim b [ true ↦ closed_by reads "}" (rest ts) >>= λ (z, us). Done (Range t x y z, us) | false ↦ elements f reads ts >>= λ (es, us). Done (Listed t (Element x (Element y es)), us) ] >>= λ
          (e, us). climbs max e us)
          ≡ elim b [
            | true ↦ reads loosest (rest ts) >>= λ (z, us). expect "}" us >>= λ (c, vs). climbs max (Range t x y z) vs
            | false ↦ listed y ts >>= λ (l, us). expect "}" us >>= λ (c, vs). climbs
                max (Listed t (Element x l)) vs
          ]
      go true = closed-start max "}" (λ z. Range t x y z) (rest ts)
      go false =
          bind_again (elements f reads ts) _ _ ∙ bind_where (elements f reads ts) _ _ (λ (es, us) _. bind_at (Listed t (Element x (Element y es)), us) _)
          ∙ elements-listed f (suc (length ts)) y (λ l us. climbs max (Listed t (Element x l)) us) ts h (omega arith)

  after_one_lem : (ts : Tokens) → length ts < f → (after_one f reads t x ts >>= λ (e, us). climbs max e us) ≡ one (frame One max t) x ts
  after_one_lem ts h = go (next "," ts)
    where
      go : (b : Bool)
          → (elim b [ true ↦ reads loosest (rest ts) >>= λ (y, us). after_two f reads t x y us | false ↦ expect "}" ts >>= λ (c, us). Done (Listed t (Element x Empty), us) ] >>= λ (e, us). climbs max
          e us)
          ≡ elim b [ true ↦ reads loosest (rest ts) >>= λ (y, us). two (with_first Two (frame One max t) x) y us | false ↦ expect "}" ts >>= λ (c, us). climbs max (Listed t (Element x Empty)) us ]
      go true =
          bind_again (reads loosest (rest ts)) _ _
          ∙ bind_where (reads loosest (rest ts)) _ _ (λ (y, us) z. let k = reads-takes loosest (rest ts) y us z in let m = rest-fits ts in after_two_lem y us (omega arith))
      go false = bind_again (expect "}" ts) _ _ ∙ bind_where (expect "}" ts) _ _ (λ (c, us) _. bind_at (Listed t (Element x Empty), us) _)

-- the first token has the number n, and no row of Table 1 that begins an operand
module _ (max : ℕ) (ts : Tokens) (none_here : prefix_row (front ts) ≡ none) where
  at-number : (n : ℕ) → number (front ts) ≡ n → reads max ts ≡ (atom_at (length ts) n (front ts) (rest ts) >>= λ (e, us). climbs max e us)
  at-number n h =
      reads_atom max ts none_here
      ∙ ap (λ (r : Read Expr). r >>= λ (e, us). climbs max e us) (atom_number (length ts) (front ts) (rest ts) ∙ ap (λ k. atom_at (length ts) k (front ts) (rest ts)) h)

  pub starts-numeral : number (front ts) ≡ tokenNumber Digits → reads max ts ≡ climbs max (Numeral (front ts)) (rest ts)
  starts-numeral h = at-number (tokenNumber Digits) h ∙ bind_at (Numeral (front ts), rest ts) _

  pub starts_true : number (front ts) ≡ fixed "true" → reads max ts ≡ climbs max (Truth (front ts) true) (rest ts)
  starts_true h = at-number (fixed "true") h ∙ bind_at (Truth (front ts) true, rest ts) _

  pub starts_false : number (front ts) ≡ fixed "false" → reads max ts ≡ climbs max (Truth (front ts) false) (rest ts)
  starts_false h = at-number (fixed "false") h ∙ bind_at (Truth (front ts) false, rest ts) _

  pub starts_round : number (front ts) ≡ fixed "(" → reads max ts ≡ (reads loosest (rest ts) >>= λ (x, us). resume (frame Round max (front ts)) x us)
  starts_round h = at-number (fixed "(") h ∙ closed-start max ")" (λ e. Paren (front ts) e) (rest ts)

  pub starts_bars : number (front ts) ≡ fixed "|" → reads max ts ≡ (reads loosest (rest ts) >>= λ (x, us). resume (frame Bars max (front ts)) x us)
  starts_bars h = at-number (fixed "|") h ∙ closed-start max "|" (λ e. Prefixed (front ts) (Measures Size) e) (rest ts)

  -- a name, alone or with an index
  pub starts-name : number (front ts) ≡ tokenNumber Name → next "[" (rest ts) ≡ false → reads max ts ≡ climbs max (Named (front ts)) (rest ts)
  starts-name h b = at-number (tokenNumber Name) h ∙ ap (λ (r : Read Expr). r >>= λ (e, us). climbs max e us) (leave (next "[" (rest ts)) _ _ b) ∙ bind_at (Named (front ts), rest ts) _

  pub starts-index : number (front ts) ≡ tokenNumber Name → next "[" (rest ts) ≡ true → reads max ts ≡ (reads loosest (rest (rest ts)) >>= λ (x, us). resume (frame Square max (front ts)) x us)
  starts-index h b =
      at-number (tokenNumber Name) h ∙ ap (λ (r : Read Expr). r >>= λ (e, us). climbs max e us) (pick (next "[" (rest ts)) _ _ b)
      ∙ closed-start max "]" (λ e. Index (front ts) e) (rest (rest ts))

  -- a set without elements, or with some
  pub starts-empty : number (front ts) ≡ fixed "{" → next "}" (rest ts) ≡ true → reads max ts ≡ climbs max (Listed (front ts) Empty) (rest (rest ts))
  starts-empty h b =
      at-number (fixed "{") h ∙ ap (λ (r : Read Expr). r >>= λ (e, us). climbs max e us) (pick (next "}" (rest ts)) _ _ b) ∙ bind_at (Listed (front ts) Empty, rest (rest ts)) _

  pub starts-set : number (front ts) ≡ fixed "{" → next "}" (rest ts) ≡ false → reads max ts ≡ (reads loosest (rest ts) >>= λ (x, us). resume (frame One max (front ts)) x us)
  starts-set h b =
      at-number (fixed "{") h ∙ ap (λ (r : Read Expr). r >>= λ (e, us). climbs max e us) (leave (next "}" (rest ts)) _ _ b)
      ∙ bind_again (reads loosest (rest ts)) _ _
      ∙ bind_where (reads loosest (rest ts)) _ _ (λ (x, us) z. let k = reads-takes loosest (rest ts) x us z in let m = rest-fits ts in after_one_lem max (length ts) (front ts) x us (omega arith))

  -- nothing begins here
  pub starts-not : ((k : ℕ) → starter k ≡ true → number (front ts) ≡ k → ⊥) → reads max ts ≡ stop ts
  unfolding ◌>>=◌
  starts-not h =
      let n = number (front ts) in
      let no : (k : ℕ) → starter k ≡ true → eqb n k ≡ false = λ k s. ne_eqb n k (h k s) in
      at-number n refl
      ∙ ap (λ (r : Read Expr). r >>= λ (e, us). climbs max e us)
      (same_tests (atom_by (length ts) (front ts) (rest ts)) (no (tokenNumber Name) refl) (no (tokenNumber Digits) refl) (no (fixed "true") refl) (no (fixed "false") refl) (no (fixed "(") refl) (no (fixed "|") refl)
      (no (fixed "{") refl))
