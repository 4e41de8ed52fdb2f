-- The ways to the line that the walk finds.
use Rattle.std.specs.Prelude.{ℕ, zero, suc, ◌-◌, ◌≤◌, ◌<◌, ◌≡◌, refl, Bool, List, length}
use Rattle.std.proofs.Common.{sym, ap, ◌∙◌, arith}
use Rattle.std.proofs.Math.Option.{Option, none, some}
use Rattle.bits.specs.Bits.{Values, width}
use Rattle.language.specs.Bytes.{if◌then◌otherwise◌}
use Rattle.language.specs.Tree.{Preset, Require, Assert, Guarantee}
use Rattle.faults.specs.Naming.{FaultIn, broken_from, or_else}
use Rattle.faults.proofs.NamingLaws.{Found, broken_found}
use Rattle.line_search.specs.Walking.{walked, value_of, seen, or_end, section_at, false_at, break_at, after_break, line_found}
use Rattle.line_counts.specs.declared.LineCounts.{LineCounts}

-- a break, or the end
module _ (strict : Bool) (require assert : Values) (n : ℕ) where
  break_some : (p : ℕ) (o : Option ℕ) → Found strict require assert 0 n o → p ≡ or_end n o → p < n → o ≡ some p
  break_some p none f e h = absurd (omega (arith, e))
  break_some p (some q) f e h = ap some (sym e)

  break_none : (p : ℕ) (o : Option ℕ) → Found strict require assert 0 n o → p ≡ or_end n o → n ≤ p → o ≡ none
  break_none p none f e h = refl
  break_none p (some q) f e h = let w = f.within in absurd (omega (arith, e))

module _ (ws rows : List ℕ) (strict : Bool) (lines : LineCounts) (n : ℕ) where
  abbrev root : ℕ
  root = length ws - 1

  abbrev require : Values
  require = value_of rows (width n) (section_at ws strict Require)

  abbrev assert : Values
  assert = value_of rows (width n) (section_at ws strict Assert)

  -- a section's line, however the path and its length are told
  pub section-line : (i m s path steps p k : ℕ) {j : ℕ} → m ≡ path → s ≡ steps → i ≡ walked ws m s root → j ≡ seen ws (λ x. value_of rows (width n) x p) i k 0
      → j ≡ seen ws (λ x. value_of rows (width n) x p) (walked ws path steps root) k 0
  section-line i m s path steps p k a b c d =
      d ∙ ap (λ (x : ℕ). seen ws (λ y. value_of rows (width n) y p) x k 0) (c ∙ ap (λ (x : ℕ). walked ws x s root) a ∙ ap (λ (x : ℕ). walked ws path x root) b)

  pub found-preset : {line : ℕ} → line ≡ false_at ws rows strict Preset n lines.preset 0 → 0 < line → FaultIn Preset line ≡ line_found ws rows strict lines n
  found-preset {line} e h = go line h ∙ ap (λ (x : ℕ). or_else x (after_break ws rows strict lines n (break_at ws rows strict n))) e
    where
      go : (m : ℕ) → 0 < m → FaultIn Preset m ≡ or_else m (after_break ws rows strict lines n (break_at ws rows strict n))
      go zero h = absurd (omega arith)
      go (suc m) h = refl

  later : {line : ℕ} → line ≡ false_at ws rows strict Preset n lines.preset 0 → line ≤ 0 → after_break ws rows strict lines n (break_at ws rows strict n) ≡ line_found ws rows strict lines n
  later {line} e h = go line h ∙ ap (λ (x : ℕ). or_else x (after_break ws rows strict lines n (break_at ws rows strict n))) e
    where
      go : (m : ℕ) → m ≤ 0 → after_break ws rows strict lines n (break_at ws rows strict n) ≡ or_else m (after_break ws rows strict lines n (break_at ws rows strict n))
      go zero h = refl
      go (suc m) h = absurd (omega arith)

  found : Found strict require assert 0 n (break_at ws rows strict n)
  found = broken_found strict require assert 0 n

  module _ {line p : ℕ} (e : line ≡ false_at ws rows strict Preset n lines.preset 0) (none_there : line ≤ 0) (b : p ≡ or_end n (break_at ws rows strict n)) where
    pub found-assert : {k : ℕ} → p < n → k ≡ false_at ws rows strict Assert n lines.assert p → FaultIn Assert k ≡ line_found ws rows strict lines n
    found-assert h d = ap (FaultIn Assert) d ∙ ap (after_break ws rows strict lines n) (sym (break_some strict require assert n p (break_at ws rows strict n) found b h)) ∙ later e none_there

    pub found-guarantee : {k : ℕ} → n ≤ p → k ≡ false_at ws rows strict Guarantee n lines.guarantee 0 → FaultIn Guarantee k ≡ line_found ws rows strict lines n
    found-guarantee h d = ap (FaultIn Guarantee) d ∙ ap (after_break ws rows strict lines n) (sym (break_none strict require assert n p (break_at ws rows strict n) found b h)) ∙ later e none_there

  -- the break between the nodes of two sections
  pub break_at_lem : (r a p m s : ℕ) → r ≡ walked ws 3 5 root → m ≡ (if strict then 5 otherwise 7) → s ≡ (if strict then 4 otherwise 5) → a ≡ walked ws m s root
      → p ≡ or_end n (broken_from strict (value_of rows (width n) r) (value_of rows (width n) a) 0 n) → p ≡ or_end n (break_at ws rows strict n)
  break_at_lem r a p m s er em es ea e =
      e ∙ ap (λ (x : ℕ). or_end n (broken_from strict (value_of rows (width n) x) (value_of rows (width n) a) 0 n)) er
      ∙ ap (λ (x : ℕ). or_end n (broken_from strict (value_of rows (width n) (walked ws 3 5 root)) (value_of rows (width n) x) 0 n))
      (ea ∙ ap (λ (x : ℕ). walked ws x s root) em ∙ ap (λ (x : ℕ). walked ws (if strict then 5 otherwise 7) x root) es)
