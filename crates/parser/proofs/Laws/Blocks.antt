-- Lines from the token before them on, one turn of their loop and the ways out; a subsection's braces, and a subsection that may be missing.
use Rattle.std.specs.Prelude.{Ok, Err}
use Prim.Native.Nat.{ℕ, suc, ◌+◌, ◌≤◌, ◌<◌}
use Prim.Native.String.{String}
use native.Mathlib.Omega.{arith}
use mathlib.Core.Bool.{false}
use mathlib.Core.List.{List, [], ◌∷◌, append-nil}
use mathlib.Core.Path.{◌≡◌, refl, sym, ap, ◌∙◌, subst}
use lib.ListN.{length, drop, length-append, length-drop}
use Rattle.node.specs.Returned.{refusal}
use Rattle.node.specs.Result.{Done}
use Rattle.node.proofs.ResultLaws.{bind_refused, bind_to}
use Rattle.language.specs.Tree.{Defined, Enumerated, OneSignal, OfWidth, OfType}
use Rattle.language.specs.Grammar.{Tokens, Read, rest, next}
use Rattle.language.specs.Sections.{lines_of, block_of, optional}
use Rattle.language.proofs.Laws.Basics.Tests.{pick, leave}
use Rattle.lexer.specs.Numbers.{fixed}
use Rattle.entries.specs.Flat.{Entry, each, flat, under}
use Rattle.entries.specs.declared.Cursor.{Cursor}
use Rattle.entries.specs.Parse.{Parse}
use Rattle.entries.specs.Cursors.{Ready, number_at, refused_at, expected}
use Rattle.entries.specs.CursorLaws.{ready-place}
use Rattle.entries.specs.Reads.{Reads}
use Rattle.entries.specs.ReadsLaws.{kept_same}
use Rattle.entries.specs.TokenReads.{took_none, expect-reads}
use Rattle.parser.specs.declared.Line.{Line}
use Rattle.parser.specs.declared.Line.TheVariants.{Parameters, Definitions, Declarations, Formulas}
use Rattle.parser.specs.Spelling.{Spells}
use Rattle.parser.specs.Lines.{Item, line_of, flat_of}
use Rattle.parser.specs.Steps.{lines_end, lines-refused, lines_more, lines-last}
use Rattle.parser.proofs.Laws.Rows.{accepted, was-refused, took_as, reads-done, reads-refused}
use Rattle.parser.proofs.Laws.Passing.{Next, here, elsewhere, inside, past-ready, rest-past, took_past, reads-behind}
use Rattle.parser.proofs.Laws.Loops.{Listing, listing_start, listing-more, going-refused, going_done, going-tail}

-- a line of a known kind
pub line_as : {ts : Tokens} {w v : List ℕ} {c : Cursor} {q : Parse} {m : Line} (us : Tokens) (l : Line) → m ≡ l → Reads ts w v c (flat_of l) (line_of l us) q → Reads ts w v c (flat_of m) (line_of m us) q
line_as {ts} {w} {v} {c} {q} us l e r = subst (λ m. Reads {A = Item m} ts w v c (flat_of m) (line_of m us) q) (sym e) r

-- every line has an entry, so it takes a token
under_some : (k : ℕ) (t : _) (es : List Entry) → 0 < length (under k t es)
under_some k t es = omega (arith, length-append es (record { kind = k; token = t; size = suc (length es) } ∷ []))

flat_of_some : (l : Line) (x : Item l) → 0 < length (flat_of l x)
flat_of_some Parameters p = under_some _ _ (flat p.value)
flat_of_some Definitions (Defined x e) = under_some _ _ (flat e)
flat_of_some Definitions (Enumerated x is) = omega arith
flat_of_some Declarations (OneSignal x) = omega arith
flat_of_some Declarations (OfWidth x e) = under_some _ _ (flat e)
flat_of_some Declarations (OfType u x) = omega arith
flat_of_some Formulas e = under_some _ _ (flat e)

module _ (l : Line) where
  -- the lines behind a token
  abbrev pub behind : ℕ → Tokens → Read (List (Item l))
  behind f us = lines_of f (line_of l) (rest us)

  pub lines_start : {ts : Tokens} {w : List ℕ} {c : Cursor} → Ready ts w c → c.at < c.count →
      Listing (flat_of l) 1 behind (lines_of (length (rest (drop c.at ts))) (line_of l) (rest (drop c.at ts))) ts w w c c
  lines_start {ts} {w} {c} ready within =
      listing_start (length (rest (drop c.at ts))) ready refl (rest-length (drop c.at ts)) (omega (arith, length-drop c.at ts, ready.tells.total))
    where
      rest-length : (us : Tokens) → length us ≤ 1 + length (rest us)
      rest-length [] = omega arith
      rest-length (u ∷ us) = omega arith

  module _ {ts : Tokens} {x : Read (List (Item l))} {w v : List ℕ} {s d e : Cursor} (h : Listing (flat_of l) 1 behind x ts w v s d) (within : d.at < d.count) (b : Next d e) where
    ready : Ready ts v d
    ready = h.going.took.ready

    pub behind-ready : Ready ts v e
    behind-ready = past-ready ready b within

    tokens-behind : behind (suc h.fuel) (drop d.at ts) ≡ lines_of (suc h.fuel) (line_of l) (drop e.at ts)
    tokens-behind = ap (lines_of (suc h.fuel) (line_of l)) (rest-past ts b)

    pub lines-close : {f : Cursor} → number_at v e ≡ fixed "}" → Next e f → Reads ts w v s (each (flat_of l)) x (Ok f)
    lines-close k g =
        going_done h.going (kept_same v d.out) []
        (tokens-behind ∙ lines_end (line_of l) h.fuel (drop e.at ts) (here behind-ready "}" refl k) ∙ ap (λ us. Done ([], us)) (rest-past ts g))
        (took_past (took_past (took_none ready) b within) g (inside behind-ready k (omega arith)))

    module _ (more : number_at v e ≡ fixed "}" → ⊥) {z : List ℕ} {q : Parse} (r : Reads ts v z d (flat_of l) (line_of l (rest (drop d.at ts))) q) where
      unclosed : next "}" (rest (drop d.at ts)) ≡ false
      unclosed = ap (next "}") (rest-past ts b) ∙ elsewhere behind-ready "}" refl more

      pub lines-stop : {n p : ℕ} → q ≡ Err (refusal n p) → Reads ts w z s (each (flat_of l)) x q
      lines-stop m = going-refused h.going r.kept m (lines-refused (line_of l) h.fuel (rest (drop d.at ts)) unclosed (was-refused m r))

      module _ {f : Cursor} (m : q ≡ Ok f) where
        pub lines-tail : {y : Parse} → (number_at z f ≡ fixed ";" → ⊥) → y ≡ expected z f (fixed "}") → Reads ts w z s (each (flat_of l)) x y
        lines-tail {y} k g =
            let a = accepted m r in
            subst (Reads ts w z s (each (flat_of l)) x) (sym g)
            (going-tail h.going r.kept (a.value ∷ [])
            (lines-last (line_of l) h.fuel (rest (drop d.at ts)) unclosed a.value (drop f.at ts) a.read (elsewhere a.took.ready ";" refl k))
            (took_as (sym (append-nil (flat_of l a.value))) a.took) (expect-reads a.took.ready "}" refl))

        pub line-further : d.at < f.at
        line-further = let a = accepted m r in omega (arith, flat_of_some l a.value, a.took.out, a.took.onward.slack)

        pub lines-again : number_at z f ≡ fixed ";" → Listing (flat_of l) 1 behind x ts w z s f
        lines-again k =
            let a = accepted m r in
            listing-more h r.kept a.value
            (lines_more (line_of l) h.fuel (rest (drop d.at ts)) unclosed a.value (drop f.at ts) a.read (here a.took.ready ";" refl k))
            a.took line-further (omega (arith, length-drop f.at ts, a.took.ready.tells.total, inside a.took.ready k (omega arith)))

  -- the braces
  module _ {ts : Tokens} {w : List ℕ} {c : Cursor} (ready : Ready ts w c) where
    pub block_refused : {y : Parse} → (number_at w c ≡ fixed "{" → ⊥) → y ≡ refused_at w c → Reads ts w w c (each (flat_of l)) (block_of (line_of l) (drop c.at ts)) y
    block_refused k e =
        reads-refused (e ∙ ap (λ (p : ℕ). Err (refusal 4 p)) (ready-place ready)) (bind_refused _ _ _ _ (leave (next "{" (drop c.at ts)) _ _ (elsewhere ready "{" refl k))) (kept_same w c.out)

    pub block_read : {v : List ℕ} {q : Parse} → number_at w c ≡ fixed "{" → Reads ts w v c (each (flat_of l)) (lines_of (length (rest (drop c.at ts))) (line_of l) (rest (drop c.at ts))) q
        → Reads ts w v c (each (flat_of l)) (block_of (line_of l) (drop c.at ts)) q
    block_read {v} {q} k r = subst (λ x. Reads ts w v c (each (flat_of l)) x q) (sym (bind_to _ _ _ (pick (next "{" (drop c.at ts)) _ _ (here ready "{" refl k)))) r

    -- a subsection that may be missing
    module _ (s : String) {word : ℕ} (spells : Spells s word) where
      pub optional-missing : (number_at w c ≡ word → ⊥) → Reads ts w w c (each (flat_of l)) (optional s (line_of l) (drop c.at ts)) (Ok c)
      optional-missing k =
          reads-done [] (leave (next s (drop c.at ts)) _ _ (elsewhere ready s spells.known (λ e. k (e ∙ spells.same)))) (kept_same w c.out) (took_none ready)

      pub optional-read : {v : List ℕ} {d : Cursor} {q : Parse} → number_at w c ≡ word → 0 < word → Next c d → Reads ts w v d (each (flat_of l)) (block_of (line_of l) (drop d.at ts)) q
          → Reads ts w v c (each (flat_of l)) (optional s (line_of l) (drop c.at ts)) q
      optional-read k p h r =
          reads-behind ready h (inside ready k p) (pick (next s (drop c.at ts)) _ _ (here ready s spells.known (k ∙ sym spells.same)) ∙ ap (block_of (line_of l)) (rest-past ts h)) r
