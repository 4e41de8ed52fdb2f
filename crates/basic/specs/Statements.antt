-- That a written text reads back as what was written, as a statement; the proof is in ReadBack (document 02, F-1: 'Where the written text keeps to the reader's
-- limits ..').
use Rattle.std.specs.Prelude.{ℕ, ◌+◌, ◌≤◌, ◌≡◌, List, [], ◌∷◌, ◌++◌, map, length}
use Rattle.std.proofs.Math.Option.{none}
use Rattle.node.specs.Ltl.{Formula, True, One, Two, G, And, Implies}
use Rattle.node.specs.Fields.{pack}
use Rattle.node.specs.Result.{Done}
use Rattle.node.specs.Written.{nodes_of, count}
use Rattle.language.specs.Limits.{max_bytes}
use Rattle.language.specs.Tokens.{tokens}
use Rattle.language.specs.Tree.{Spec}
use Rattle.language.specs.Sections.{spec_of}
use Rattle.language.specs.Places.{too_deep}
use Rattle.language.specs.Parsing.{too_many_tokens}
use Rattle.language.specs.Numbered.{flag_of}
use Rattle.language.specs.Reading.{NumberedFormula, text_expansion}
use Rattle.writing.specs.Moving.{moved}
use Rattle.basic.specs.Spelling.{names_of}

-- 'the written text keeps to the reader's limits', by the reader's own tests for 1, 3 and 5
pub record Kept (s : List ℕ) : Type 0 where
  pub short : length s ≤ max_bytes
  pub counted : too_many_tokens (tokens s) ≡ none
  pub shallow : (x : Spec) → spec_of (tokens s) ≡ Done x → too_deep x ≡ none

-- the formula of a specification without lines, with f for the `true` of its GUARANTEE
abbrev pub guaranteeing : Formula → Formula
guaranteeing f = Two Implies True (Two And True (Two Implies (Two And (One G True) True) (Two And (One G True) f)))

-- its nodes before those of GUARANTEE
abbrev pub front : List ℕ
front = pack 0 0 0 ∷ pack 0 0 0 ∷ pack 0 0 0 ∷ pack 9 2 0 ∷ pack 0 0 0 ∷ pack 4 3 4 ∷ pack 0 0 0 ∷ pack 9 6 0 ∷ []

-- and behind those of GUARANTEE, which are n
abbrev pub behind : ℕ → List ℕ
behind n = pack 4 7 (n + 7) ∷ pack 6 5 (n + 8) ∷ pack 4 1 (n + 9) ∷ pack 6 0 (n + 10) ∷ []

-- the text s, written of `text`, is accepted, and gives what a specification without lines gives, with the nodes written as those of its GUARANTEE
pub record ReadsBack (text s : List ℕ) : Type 0 where
  pub source : NumberedFormula
  pub back : NumberedFormula
  pub meaning : text_expansion text ≡ Done source
  pub reads : text_expansion s ≡ Done back
  pub formula : back.formula ≡ guaranteeing source.formula
  pub nodes : nodes_of back.formula ≡ front ++ (map (moved 0 8) (nodes_of source.formula) ++ behind (count source.formula))
  pub names : names_of s back.signals ≡ names_of text source.signals
  pub directions : map flag_of back.signals ≡ map flag_of source.signals
