-- A subsection of MAIN behind its word, and the end of MAIN.
use Prim.Native.Nat.{ℕ, zero, suc, ◌≤◌, ◌<◌}
use native.Mathlib.Omega.{arith}
use mathlib.Core.List.{List, []}
use mathlib.Core.Bool.{Bool, true, false, ◌&&◌}
use mathlib.Core.Option.{none}
use mathlib.Core.Path.{◌≡◌, refl, sym, ap, ◌∙◌, subst}
use lib.ListN.{drop}
use Rattle.language.specs.Tree.{Inputs, Outputs, Lines}
use Rattle.language.specs.Grammar.{Tokens, rest}
use Rattle.language.specs.Sections.{expression, declaration_of, block_of, Heading, InputsHere, OutputsHere, LinesHere, subsection_of}
use Rattle.lexer.specs.Numbers.{fixed}
use Rattle.entries.specs.Headings.{no_heading}
use Rattle.entries.specs.Kinds as Kind
use Rattle.entries.specs.Flat.{each, head, flat_declaration, flat_line, flat_subsection}
use Rattle.entries.specs.Stored.{put_entry}
use Rattle.entries.specs.declared.Cursor.{Cursor}
use Rattle.entries.specs.Parse.{Parse}
use Rattle.entries.specs.Cursors.{Ready, Writes, emitted_of, refused_at, expected}
use Rattle.entries.specs.Reads.{Kept, Took, Reads}
use Rattle.entries.specs.ReadsLaws.{kept_same, read-stop}
use Rattle.entries.specs.TokenReads.{took_none, expect-reads}
use Rattle.parser.specs.Headings.{heading_code, end_of, marked}
use Rattle.parser.proofs.Laws.Rows.{writes, kept_emit, took-emit, reads-tail}
use Rattle.parser.proofs.Laws.Passing.{Next, past-ready, rest-past, took_past}

module _ {ts : Tokens} {w : List ℕ} {c d : Cursor} (ready : Ready ts w c) (within : c.at < c.count) (b : Next c d) (n : ℕ) (small : n < no_heading) where
  pub heading-writes : Writes w d Kind.heading 0 n
  heading-writes = writes (past-ready ready b within) (omega arith) (omega arith) (omega arith)

  heading_took : Took ts (put_entry w d.out Kind.heading 0 n) c (emitted_of d) (head n)
  heading_took = took-emit Kind.heading 0 n none ready.less (took_past (took_none ready) b within) (omega (arith, b.at, b.out)) (omega arith) (omega arith) (omega arith) tt

  module _ {v : List ℕ} {e : Cursor} (x : e ≡ emitted_of d) (y : v ≡ put_entry w d.out Kind.heading 0 n) where
    took : Took ts v c e (head n)
    took = rw (x, y) heading_took

    kept : Kept w v c.out
    kept = subst (λ u. Kept w u c.out) (sym y) (kept_emit (past-ready ready b within) c.out (omega (arith, b.out)) Kind.heading 0 n)

    pub block-ready : Ready ts v e
    block-ready = took.ready

    tokens : rest (drop c.at ts) ≡ drop e.at ts
    tokens = rest-past ts b ∙ ap (λ (k : Cursor). drop k.at ts) (sym x)

    module _ {z : List ℕ} {q : Parse} (h : Heading) (code : heading_code h ≡ n) where
      pub declarations-read : n < 2 → Reads ts v z e (each flat_declaration) (block_of declaration_of (drop e.at ts)) q → Reads ts w z c flat_subsection (subsection_of h (rest (drop c.at ts))) q
      declarations-read l r = go h code
        where
          at : {i : ℕ} → i ≡ n → Took ts v c e (head i)
          at m = subst (λ i. Took ts v c e (head i)) (sym m) took

          go : (h : Heading) → heading_code h ≡ n → Reads ts w z c flat_subsection (subsection_of h (rest (drop c.at ts))) q
          go InputsHere m = reads-tail Inputs (ap (subsection_of InputsHere) tokens) (λ ds. refl) kept (at m) r
          go OutputsHere m = reads-tail Outputs (ap (subsection_of OutputsHere) tokens) (λ ds. refl) kept (at m) r
          go (LinesHere p) m = absurd (omega arith)

      pub formulas-read : 2 ≤ n → Reads ts v z e (each flat_line) (block_of expression (drop e.at ts)) q → Reads ts w z c flat_subsection (subsection_of h (rest (drop c.at ts))) q
      formulas-read l r = go h code
        where
          at : {i : ℕ} → i ≡ n → Took ts v c e (head i)
          at m = subst (λ i. Took ts v c e (head i)) (sym m) took

          go : (h : Heading) → heading_code h ≡ n → Reads ts w z c flat_subsection (subsection_of h (rest (drop c.at ts))) q
          go InputsHere m = absurd (omega arith)
          go OutputsHere m = absurd (omega arith)
          go (LinesHere p) m = reads-tail (Lines p) (ap (subsection_of (LinesHere p)) tokens) (λ es. refl) kept (at m) r

-- marks
pub marked_none : (n : ℕ) → n ≡ 0 → marked n ≡ false
marked_none n e = ap marked e

pub marked_some : (n : ℕ) → (n ≡ 0 → ⊥) → marked n ≡ true
marked_some zero e = absurd (e refl)
marked_some (suc n) e = refl

-- the end
module _ {ts : Tokens} {w : List ℕ} {c : Cursor} (ready : Ready ts w c) {complete : Bool} {r : Parse} where
  pub ending-refused : complete ≡ false → r ≡ refused_at w c → Reads ts w w c (each flat_subsection) (end_of complete (drop c.at ts)) r
  ending-refused e m =
      subst (Reads ts w w c (each flat_subsection) (end_of complete (drop c.at ts))) (sym m)
      (subst (λ b. Reads ts w w c (each flat_subsection) (end_of b (drop c.at ts)) (refused_at w c)) (sym e) (read-stop ready))

  pub ending-closed : complete ≡ true → r ≡ expected w c (fixed "}") → Reads ts w w c (each flat_subsection) (end_of complete (drop c.at ts)) r
  ending-closed e m =
      subst (Reads ts w w c (each flat_subsection) (end_of complete (drop c.at ts))) (sym m)
      (subst (λ b. Reads ts w w c (each flat_subsection) (end_of b (drop c.at ts)) (expected w c (fixed "}"))) (sym e)
      (reads-tail (λ t. []) refl (λ t. refl) (kept_same w c.out) (took_none ready) (expect-reads ready "}" refl)))

pub left_false : {a : Bool} (b : Bool) → a ≡ false → (a && b) ≡ false
left_false b e = ap (λ c. c && b) e

pub right_false : (a : Bool) {b : Bool} → b ≡ false → (a && b) ≡ false
right_false true e = e
right_false false e = refl
