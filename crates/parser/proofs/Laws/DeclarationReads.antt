-- Declarations: a signal, a bus with its width, a bus with its enumeration; each way through their reader.
use Rattle.std.specs.Prelude.{Ok, Err}
use Prim.Native.Nat.{ℕ, ◌+◌, ◌-◌, ◌≤◌, ◌<◌}
use native.Mathlib.Omega.{arith}
use mathlib.Core.List.{List, []}
use mathlib.Core.Option.{some}
use mathlib.Core.Bool.{true, false}
use mathlib.Core.Path.{◌≡◌, refl, sym, ap, ◌∙◌, subst}
use lib.ListN.{drop}
use Rattle.node.specs.Returned.{refusal}
use Rattle.language.specs.Tokens.{Token, Name, is_of}
use Rattle.language.specs.Tree.{Declaration, OfWidth, OfType, OneSignal}
use Rattle.language.specs.Grammar.{Tokens, Read, front, rest, next, expect_of}
use Rattle.node.specs.Result.{Done, ◌>>=◌}
use Rattle.node.proofs.ResultLaws.{bind_refused, bind_to}
use Rattle.language.specs.Sections.{expression, declaration_of}
use Rattle.language.proofs.Laws.Basics.Tests.{pick, leave}
use Rattle.lexer.specs.Numbers.{fixed, class_number}
use Rattle.language.specs.Limits.{max_tokens}
use Rattle.entries.specs.Kinds as Kind
use Rattle.entries.specs.Flat.{leaf, flat, flat_declaration}
use Rattle.entries.specs.Stored.{put_entry}
use Rattle.entries.specs.declared.Cursor.{Cursor}
use Rattle.entries.specs.Parse.{Parse}
use Rattle.entries.specs.Cursors.{Ready, Writes, number_at, emitted_of, expected}
use Rattle.entries.specs.Reads.{Kept, Took, Reads}
use Rattle.entries.specs.ReadsLaws.{kept_same, kept_then}
use Rattle.entries.specs.TokenReads.{took_none}
use Rattle.parser.specs.Parts.{width_of}
use Rattle.parser.proofs.Laws.Rows.{Accepted, accepted, was-refused, took_then, took-emit, writes, kept_emit, under-writes, reads-done, reads-refused}
use Rattle.parser.proofs.Laws.LineReads.{closed}
use Rattle.parser.proofs.Laws.Passing.{
  Next,
  Passed,
  stopped,
  inside,
  passed-ready,
  past-ready,
  rest-past,
  took_past,
  took_passed,
  expectOf-passed,
  expectOf-not,
  expect-passed,
  expect-not,
  keeps_here,
  here,
  elsewhere,
  class-here,
  class-elsewhere,
}

-- a bus and its width, from its name on
module _ {ts : Tokens} {w : List ℕ} {c d e : Cursor} (ready : Ready ts w c) (within : c.at + 1 < c.count) (h : Next c d) (g : Next d e) where
  behind-name : d.at < d.count
  behind-name = omega (arith, h.at, h.count)

  pub width-ready : Ready ts w e
  width-ready = past-ready (past-ready ready h (omega arith)) g behind-name

  to_width : Took ts w c e []
  to_width = took_past (took_past (took_none ready) h (omega arith)) g behind-name

  to_tokens : rest (rest (drop c.at ts)) ≡ drop e.at ts
  to_tokens = ap rest (rest-past ts h) ∙ rest-past ts g

  abbrev bus-answer : Read Declaration
  bus-answer = width_of (front (drop c.at ts)) (rest (rest (drop c.at ts)))

  module _ {v : List ℕ} {q : Parse} (r : Reads ts w v e flat (expression (drop e.at ts)) q) where
    bus-kept : Kept w v c.out
    bus-kept = subst (Kept w v) (g.out ∙ h.out) r.kept

    pub bus-refused : {n p : ℕ} → q ≡ Err (refusal n p) → Reads ts w v c flat_declaration bus-answer q
    bus-refused m = reads-refused m (bind_refused _ _ _ _ (ap expression to_tokens ∙ was-refused m r)) bus-kept

    module _ {f : Cursor} (m : q ≡ Ok f) where
      width : Accepted ts v e f flat (expression (drop e.at ts))
      width = accepted m r

      pub bus-unclosed : {y : Parse} {n p : ℕ} → y ≡ expected v f (fixed "]") → y ≡ Err (refusal n p) → Reads ts w v c flat_declaration bus-answer y
      bus-unclosed x k =
          reads-refused k (bind_to _ _ _ (ap expression to_tokens ∙ width.read) ∙ bind_refused _ _ _ _ (expect-not width.took.ready "]" refl (stopped v f (fixed "]") x k))) bus-kept

      module _ {b : Cursor} (k : Passed v f b (fixed "]")) where
        bus-took : Took ts v c b (flat width.value)
        bus-took = took_passed (took_then to_width r.kept width.took) k (omega arith)

        bus-room : b.out + 1 + c.at ≤ c.out + b.at
        bus-room = omega (arith, width.took.onward.slack, h.at, h.out, g.at, g.out, k.next.at, k.next.out)

        bus-near : c.at < max_tokens
        bus-near = omega (arith, ready.fits.few)

        pub bus-writes : (c.out ≤ b.out) × Writes v b Kind.bus c.at (b.out - c.out + 1)
        bus-writes = under-writes Kind.bus c.at ready.less bus-took bus-room (omega arith) bus-near

        pub bus-read : {z : List ℕ} {y : Parse} → y ≡ Ok (emitted_of b) → z ≡ put_entry v b.out Kind.bus c.at (b.out - c.out + 1) → Reads ts w z c flat_declaration bus-answer y
        bus-read =
            closed Kind.bus c.at (some (front (drop c.at ts))) (OfWidth (front (drop c.at ts)) width.value) ready
            (bind_to _ _ _ (ap expression to_tokens ∙ width.read) ∙ bind_to _ _ _ (expect-passed width.took.ready "]" refl k))
            refl bus-kept bus-took bus-room (omega arith) bus-near (keeps_here ready (omega arith))

-- a declaration by what follows its name
module _ {ts : Tokens} {w : List ℕ} {c : Cursor} (ready : Ready ts w c) where
  abbrev answer : Read Declaration
  answer = declaration_of (drop c.at ts)

  pub declaration_name : {q : Parse} {n p : ℕ} → q ≡ expected w c (class_number Name) → q ≡ Err (refusal n p) → Reads ts w w c flat_declaration answer q
  declaration_name x m = reads-refused m (bind_refused _ _ _ _ (expectOf-not ready Name refl (stopped w c (class_number Name) x m))) (kept_same w c.out)

  module _ {d : Cursor} (h : Passed w c d (class_number Name)) where
    pub name-ready : Ready ts w d
    name-ready = passed-ready ready h (omega arith)

    named-done : (k : Token × Tokens → Read Declaration) → expect_of Name (drop c.at ts) >>= k ≡ k (front (drop c.at ts), drop d.at ts)
    named-done k = bind_to _ _ k (expectOf-passed ready Name refl h)

    name-within : c.at < c.count
    name-within = inside ready h.token (omega arith)

    -- `[`
    pub bus-within : number_at w d ≡ fixed "[" → c.at + 1 < c.count
    bus-within k = omega (arith, inside name-ready k (omega arith), h.next.at, h.next.count)

    pub declaration-bus : {v : List ℕ} {q : Parse} → number_at w d ≡ fixed "[" → Reads ts w v c flat_declaration (width_of (front (drop c.at ts)) (rest (rest (drop c.at ts)))) q
        → Reads ts w v c flat_declaration answer q
    declaration-bus {v} {q} k r =
        subst (λ x. Reads ts w v c flat_declaration x q)
        (sym (named-done _ ∙ pick (next "[" (drop d.at ts)) _ _ (here name-ready "[" refl k) ∙ ap (λ us. width_of (front (drop c.at ts)) (rest us)) (sym (rest-past ts h.next)))) r

    module _ (open-not : number_at w d ≡ fixed "[" → ⊥) where
      after-name : answer ≡ elim (is_of Name (front (drop d.at ts)))
          [ true ↦ Done (OfType (front (drop c.at ts)) (front (drop d.at ts)), rest (drop d.at ts)) | false ↦ Done (OneSignal (front (drop c.at ts)), drop d.at ts) ]
      after-name = named-done _ ∙ leave (next "[" (drop d.at ts)) _ _ (elsewhere name-ready "[" refl open-not)

      -- a name: an enumeration's, then the bus's
      module _ (k : number_at w d ≡ class_number Name) {e : Cursor} (g : Next d e) where
        typed-within : d.at < d.count
        typed-within = inside name-ready k (omega arith)

        to_typed : Took ts w c e []
        to_typed = took_past (took_passed (took_none ready) h (omega arith)) g typed-within

        pub first-writes : Writes w e Kind.named c.at 1
        first-writes = writes to_typed.ready (omega arith) (omega (arith, name-within, ready.fits.few)) (omega arith)

        first-took : Took ts (put_entry w e.out Kind.named c.at 1) c (emitted_of e) (leaf Kind.named (front (drop c.at ts)))
        first-took =
            took-emit Kind.named c.at 1 (some (front (drop c.at ts))) ready.less to_typed (omega (arith, h.next.at, h.next.out, g.at, g.out)) (omega arith)
            (omega (arith, name-within, ready.fits.few)) (omega arith) (keeps_here ready name-within)

        pub second-writes : {v : List ℕ} {f : Cursor} → f ≡ emitted_of e → v ≡ put_entry w e.out Kind.named c.at 1 → Writes v f Kind.typed d.at 2
        second-writes x y =
            rw (x, y) (writes first-took.ready (omega arith) (omega (arith, typed-within, name-ready.fits.few)) (omega arith))

        pub declaration-typed : {v z : List ℕ} {f b : Cursor} → f ≡ emitted_of e → v ≡ put_entry w e.out Kind.named c.at 1 → b ≡ emitted_of f → z ≡ put_entry v f.out Kind.typed d.at 2
            → Reads ts w z c flat_declaration answer (Ok b)
        declaration-typed x y x' y' =
            let second =
            took-emit Kind.typed d.at 2 (some (front (drop d.at ts))) ready.less first-took (omega (arith, h.next.at, h.next.out, g.at, g.out)) (omega arith)
            (omega (arith, typed-within, name-ready.fits.few)) (omega arith) (keeps_here name-ready typed-within) in
            rw (x', y', x, y)
            (reads-done (OfType (front (drop c.at ts)) (front (drop d.at ts)))
            (after-name ∙ pick (is_of Name (front (drop d.at ts))) _ _ (class-here name-ready Name refl k) ∙ ap (λ us. Done (OfType (front (drop c.at ts)) (front (drop d.at ts)), us))
            (rest-past ts g))
            (kept_then (omega arith) (kept_emit to_typed.ready c.out (omega (arith, g.out, h.next.out)) Kind.named c.at 1)
            (kept_emit first-took.ready c.out (omega (arith, g.out, h.next.out)) Kind.typed d.at 2)) second)

      -- anything else: a signal
      module _ (name-not : number_at w d ≡ class_number Name → ⊥) where
        pub signal-writes : Writes w d Kind.signal c.at 1
        signal-writes = writes name-ready (omega arith) (omega (arith, name-within, ready.fits.few)) (omega arith)

        pub declaration-signal : {v : List ℕ} {e : Cursor} → e ≡ emitted_of d → v ≡ put_entry w d.out Kind.signal c.at 1 → Reads ts w v c flat_declaration answer (Ok e)
        declaration-signal x y =
            let own =
            took-emit Kind.signal c.at 1 (some (front (drop c.at ts))) ready.less (took_passed (took_none ready) h (omega arith)) (omega (arith, h.next.at, h.next.out)) (omega arith)
            (omega (arith, name-within, ready.fits.few)) (omega arith) (keeps_here ready name-within) in
            rw (x, y)
            (reads-done (OneSignal (front (drop c.at ts))) (after-name ∙ leave (is_of Name (front (drop d.at ts))) _ _ (class-elsewhere name-ready Name refl name-not))
            (kept_emit name-ready c.out (omega (arith, h.next.out)) Kind.signal c.at 1) own)
