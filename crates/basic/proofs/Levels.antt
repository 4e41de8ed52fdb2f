-- How deep a written text's tree is, for refusal 5: twice as deep as the formula.
use Rattle.std.specs.Prelude.{ℕ, suc, ◌+◌, ◌*◌, max, ◌≤◌, ◌≡◌, refl, Bool, List, [], ◌∷◌}
use Rattle.std.proofs.Common.{ap, ◌∙◌, arith, le-leb}
use Rattle.std.proofs.Math.Option.{none}
use Rattle.node.specs.Ltl.{Formula, True, False, Signal, One, Two}
use Rattle.language.specs.Limits.{max_levels}
use Rattle.language.specs.Tokens.{Name, Token}
use Rattle.language.specs.Tree.{Model}
use Rattle.language.specs.Places.{levels, first, first_in, unless, TextLine, declaration_lines, deep_line, too_deep}
use Rattle.basic.specs.Basic.{unary_sign, binary_sign}
use Rattle.basic.proofs.Lexed.{sign, past, ending}
use Rattle.basic.proofs.Lexemes.{body_lexemes}
use Rattle.basic.proofs.ParsedFormula.{inside_of, tree_of}
use Rattle.basic.proofs.ParsedText.{singles, main_for, plain_spec}

-- how many levels a formula has
abbrev pub depth : Formula → ℕ
depth True = 1
depth False = 1
depth (Signal k) = 1
depth (One o a) = suc (depth a)
depth (Two o a b) = suc (max (depth a) (depth b))

inside-levels : (names : List (List ℕ)) (f : Formula) (at : ℕ) → levels (inside_of names at f) + 1 ≡ 2 * depth f
inside-levels names True at = refl
inside-levels names False at = refl
inside-levels names (Signal k) at = refl
inside-levels names (One o a) at = let ih = inside-levels names a (past (sign "(") (past (sign (unary_sign o)) at)) in omega arith
inside-levels names (Two o a b) at =
    let first = past (sign "(") at in
    let second = past (sign "(") (past (sign (binary_sign o)) (ending first (body_lexemes names a))) in
    let left = inside-levels names a first in
    let right = inside-levels names b second in
    omega arith

singles_shallow : (at : ℕ) (ns : List (List ℕ)) (ls : List TextLine) → first_in deep_line (declaration_lines (singles at ns) ls) ≡ first_in deep_line ls
singles_shallow at [] ls = refl
singles_shallow at (n ∷ ns) ls = singles_shallow (past (sign ";") (past (Name, n) at)) ns ls

-- a written text's tree whose formula has at most half of the levels that 5 allows
pub shallow_for : (m : Model) (inputs outputs names : List (List ℕ)) (f : Formula) (word : Token) (at : ℕ × ℕ × ℕ) → 2 * depth f ≤ max_levels
    → too_deep (plain_spec m word (main_for inputs outputs names f at)) ≡ none
shallow_for m inputs outputs names f word at h =
    let tree = tree_of names at.2 f in
    let inside = inside-levels names f (past (sign "(") at.2) in
    singles_shallow at.0 inputs _ ∙ singles_shallow at.1 outputs _ ∙ ap (λ (b : Bool). first (unless b at.2) none) (le-leb (levels tree) max_levels (omega arith))
