-- A name with its value, and a formula: each way through their readers.
use Rattle.std.specs.Prelude.{Ok, Err}
use Prim.Native.Nat.{ℕ, ◌+◌, ◌-◌, ◌≤◌, ◌<◌}
use native.Mathlib.Omega.{arith}
use mathlib.Core.List.{List, []}
use mathlib.Core.Option.{none, some}
use mathlib.Core.Path.{◌≡◌, refl, sym, ap, ◌∙◌, subst}
use lib.ListN.{drop}
use Rattle.node.specs.Returned.{refusal}
use Rattle.language.specs.Tokens.{Name}
use Rattle.language.specs.Tree.{Parameter, Defined}
use Rattle.language.specs.Grammar.{Tokens, Read, front, rest, next}
use Rattle.node.specs.Result.{Done}
use Rattle.node.proofs.ResultLaws.{bind_refused, bind_to}
use Rattle.language.specs.Sections.{expression, parameter_of, enumeration_of, definition_of}
use Rattle.language.proofs.Laws.Basics.Tests.{pick, leave}
use Rattle.lexer.specs.Numbers.{fixed, class_number}
use Rattle.language.specs.Limits.{max_tokens}
use Rattle.entries.specs.Kinds as Kind
use Rattle.entries.specs.Flat.{Entry, under, flat, flat_line, flat_definition}
use Rattle.entries.specs.Stored.{put_entry, Keeps}
use Rattle.entries.specs.declared.Cursor.{Cursor}
use Rattle.entries.specs.Parse.{Parse}
use Rattle.entries.specs.Cursors.{Ready, Writes, number_at, emitted_of, expected}
use Rattle.entries.specs.Reads.{Kept, Took, Reads}
use Rattle.entries.specs.ReadsLaws.{kept_same, kept_then}
use Rattle.entries.specs.TokenReads.{took_none}
use Rattle.parser.specs.Parts.{flat_valued}
use Rattle.parser.proofs.Laws.Rows.{Accepted, accepted, was-refused, took_then, took_as, kept_emit, took-under, under-writes, reads-done, reads-refused, reads-tail}
use Rattle.parser.proofs.Laws.Passing.{
  Next,
  Passed,
  stopped,
  inside,
  passed-ready,
  rest-past,
  took_past,
  took_passed,
  expectOf-passed,
  expectOf-not,
  expect-passed,
  expect-not,
  keeps_here,
  here,
  elsewhere,
  reads-behind,
}

-- an entry that closes what was read
pub closed : {A : Type 0} {ts : Tokens} {w v z : List ℕ} {s d : Cursor} {es : List Entry} {f : A → List Entry} {x : Read A} {q : Parse} (k j : ℕ) (t : _) (a : A) → Ready ts w s
    → x ≡ Done (a, drop d.at ts) → f a ≡ under k t es →
    Kept w v s.out → Took ts v s d es → d.out + 1 + s.at ≤ s.out + d.at → k < Kind.limit → j < max_tokens → Keeps ts j t →
    q ≡ Ok (emitted_of d) → z ≡ put_entry v d.out k j (d.out - s.out + 1) → Reads ts w z s f x q
closed {ts = ts} {w} {v} {z} {s} {d} {es} {f} {x} {q} k j t a ready e flats kept h room small near keeps m n =
    let u : Took ts z s (emitted_of d) (f a) =
    subst (λ y. Took ts y s (emitted_of d) (f a)) (sym n) (took_as (sym flats) (took-under k j ready.less h room small near t keeps)) in
    let written : Kept v z d.out =
    subst (λ y. Kept v y d.out) (sym n) (kept_emit h.ready d.out (omega arith) k j (d.out - s.out + 1)) in
    subst (Reads ts w z s f x) (sym m) (reads-done a e (kept_then (omega (arith, h.out)) kept written) u)

-- `name = expression`
module _ {ts : Tokens} {w : List ℕ} {c : Cursor} (ready : Ready ts w c) {f : Parameter → List Entry} where
  pub valued-name : {q : Parse} {n p : ℕ} → q ≡ expected w c (class_number Name) → q ≡ Err (refusal n p) → Reads ts w w c f (parameter_of (drop c.at ts)) q
  valued-name x m = reads-refused m (bind_refused _ _ _ _ (expectOf-not ready Name refl (stopped w c (class_number Name) x m))) (kept_same w c.out)

  module _ {d : Cursor} (h : Passed w c d (class_number Name)) where
    pub valued-sign : {q : Parse} {n p : ℕ} → q ≡ expected w d (fixed "=") → q ≡ Err (refusal n p) → Reads ts w w c f (parameter_of (drop c.at ts)) q
    valued-sign x m =
        reads-refused m (bind_to _ _ _ (expectOf-passed ready Name refl h) ∙ bind_refused _ _ _ _ (expect-not (passed-ready ready h (omega arith)) "=" refl (stopped w d (fixed "=") x m)))
        (kept_same w c.out)

module _ {ts : Tokens} {w v : List ℕ} {c d e : Cursor} (ready : Ready ts w c) (h : Passed w c d (class_number Name)) (g : Passed w d e (fixed "=")) {q : Parse} (r : Reads ts w v e flat (expression (drop e.at ts)) q) where
  to_value : Took ts w c e []
  to_value = took_passed (took_passed (took_none ready) h (omega arith)) g (omega arith)

  kept : Kept w v c.out
  kept = subst (Kept w v) (g.next.out ∙ h.next.out) r.kept

  pub valued-refused : {f : Parameter → List Entry} {n p : ℕ} → q ≡ Err (refusal n p) → Reads ts w v c f (parameter_of (drop c.at ts)) q
  valued-refused m =
      reads-refused m (bind_to _ _ _ (expectOf-passed ready Name refl h) ∙ bind_to _ _ _ (expect-passed (passed-ready ready h (omega arith)) "=" refl g) ∙ bind_refused _ _ _ _ (was-refused m r)) kept

  module _ {f : Cursor} (m : q ≡ Ok f) (kind : ℕ) (small : kind < Kind.limit) where
    value : Accepted ts v e f flat (expression (drop e.at ts))
    value = accepted m r

    took : Took ts v c f (flat value.value)
    took = took_then to_value r.kept value.took

    room : f.out + 1 + c.at ≤ c.out + f.at
    room = omega (arith, value.took.onward.slack, h.next.at, h.next.out, g.next.at, g.next.out)

    near : c.at < max_tokens
    near = omega (arith, inside ready h.token (omega arith), ready.fits.few)

    pub valued-writes : (c.out ≤ f.out) × Writes v f kind c.at (f.out - c.out + 1)
    valued-writes = under-writes kind c.at ready.less took room small near

    pub valued_read : {z : List ℕ} {y : Parse} → y ≡ Ok (emitted_of f) → z ≡ put_entry v f.out kind c.at (f.out - c.out + 1)
        → Reads ts w z c (flat_valued kind) (parameter_of (drop c.at ts)) y
    valued_read =
        closed kind c.at (some (front (drop c.at ts))) (record { name = front (drop c.at ts); value = value.value }) ready
        (bind_to _ _ _ (expectOf-passed ready Name refl h) ∙ bind_to _ _ _ (expect-passed (passed-ready ready h (omega arith)) "=" refl g) ∙ bind_to _ _ _ value.read)
        refl kept took room small near (keeps_here ready (inside ready h.token (omega arith)))

-- a formula behind the token before it
module _ {ts : Tokens} {w v : List ℕ} {c d : Cursor} (ready : Ready ts w c) (within : c.at < c.count) (h : Next c d) {q : Parse} (r : Reads ts w v d flat (expression (drop d.at ts)) q) where
  formula-kept : Kept w v c.out
  formula-kept = subst (Kept w v) h.out r.kept

  pub formula-refused : {n p : ℕ} → q ≡ Err (refusal n p) → Reads ts w v c flat_line (expression (rest (drop c.at ts))) q
  formula-refused m = reads-refused m (ap expression (rest-past ts h) ∙ was-refused m r) formula-kept

  module _ {e : Cursor} (m : q ≡ Ok e) where
    formula : Accepted ts v d e flat (expression (drop d.at ts))
    formula = accepted m r

    formula-took : Took ts v c e (flat formula.value)
    formula-took = took_then (took_past (took_none ready) h within) r.kept formula.took

    formula-room : e.out + 1 + c.at ≤ c.out + e.at
    formula-room = omega (arith, formula.took.onward.slack, h.at, h.out)

    pub formula-writes : (c.out ≤ e.out) × Writes v e Kind.line 0 (e.out - c.out + 1)
    formula-writes = under-writes Kind.line 0 ready.less formula-took formula-room (omega arith) (omega arith)

    pub formula-read : {z : List ℕ} {y : Parse} → y ≡ Ok (emitted_of e) → z ≡ put_entry v e.out Kind.line 0 (e.out - c.out + 1) → Reads ts w z c flat_line (expression (rest (drop c.at ts))) y
    formula-read =
        closed Kind.line 0 none formula.value ready (ap expression (rest-past ts h) ∙ formula.read) refl formula-kept formula-took formula-room (omega arith) (omega arith) tt

-- a definition: an enumeration, or a name and its value
module _ {ts : Tokens} {w v : List ℕ} {c : Cursor} (ready : Ready ts w c) {q : Parse} where
  pub definition_enum : {d : Cursor} → number_at w c ≡ fixed "enum" → Next c d → Reads ts w v d flat_definition (enumeration_of (drop d.at ts)) q
      → Reads ts w v c flat_definition (definition_of (drop c.at ts)) q
  definition_enum k h r =
      reads-behind ready h (inside ready k (omega arith)) (pick (next "enum" (drop c.at ts)) _ _ (here ready "enum" refl k) ∙ ap enumeration_of (rest-past ts h)) r

  pub definition-valued : (number_at w c ≡ fixed "enum" → ⊥) → Reads ts w v c (flat_valued Kind.definition) (parameter_of (drop c.at ts)) q
      → Reads ts w v c flat_definition (definition_of (drop c.at ts)) q
  definition-valued k r =
      reads-tail (λ (p : Parameter). Defined p.name p.value) (leave (next "enum" (drop c.at ts)) _ _ (elsewhere ready "enum" refl k)) (λ p. refl) (kept_same w c.out) (took_none ready) r
