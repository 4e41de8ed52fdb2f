-- A sign, a word or a token of a class: what the code knows by the number is what the grammar asks of the next token.
use Rattle.std.specs.Prelude.{ℕ, ◌+◌, ◌<◌, List, [], Bool, true, false, ◌≡◌, eqb, drop}
use Prim.Native.String.{String}
use Rattle.std.proofs.Common.{arith, sym, ap, ◌∙◌, subst, eqb-true}
use Rattle.std.proofs.lemmas.Bool.{eqb-false}
use Rattle.node.specs.Result.{Done}
use Rattle.language.specs.Bytes.{ascii, if◌then◌otherwise◌, is_one_of}
use Rattle.language.specs.Tokens.{Class, Token, is_of}
use Rattle.language.specs.Grammar.{Tokens, front, rest, stop, next, named, expect, expect_of}
use Rattle.lexer.specs.Numbers.{spellings, fixed, numbered, class_number}
use Rattle.lexer.specs.NumberLaws.{is_number, known, named-number, is_plain, class_number_lem}
use Rattle.entries.specs.declared.Cursor.{Cursor}
use Rattle.entries.specs.Cursors.{Ready, number_at, next_of, expected}
use Rattle.entries.specs.CursorLaws.{ready-number, ready-next, before-end, drop-next, expected-here, expected-not}
use Rattle.entries.specs.Reads.{Took, Reads, no_entries}
use Rattle.entries.specs.ReadsLaws.{onward-next, onward-same, read_done, read-stop}

-- no entries from c to its next cursor
pub took_token : {ts : Tokens} {w : List ℕ} {c : Cursor} → Ready ts w c → c.at < c.count → Took ts w c (next_of c) []
took_token {c = c} r h = record { entries = tt; out = omega arith; ready = ready-next r h; onward = onward-next c }

pub took_none : {ts : Tokens} {w : List ℕ} {c : Cursor} → Ready ts w c → Took ts w c c []
took_none {c = c} r = record { entries = tt; out = omega arith; ready = r; onward = onward-same c }

module _ {ts : Tokens} {w : List ℕ} {c : Cursor} (ready : Ready ts w c) where
  -- the tests of the grammar
  pub next_number_lem : (s : String) → is_one_of spellings (ascii s) ≡ true → next s (drop c.at ts) ≡ eqb (number_at w c) (fixed s)
  next_number_lem s h = is_number s (front (drop c.at ts)) h ∙ ap (λ n. eqb n (fixed s)) (sym (ready-number ready))

  pub next-class : (k : Class) → is_plain k ≡ true → is_of k (front (drop c.at ts)) ≡ eqb (number_at w c) (class_number k)
  next-class k h = class_number_lem k (front (drop c.at ts)) h ∙ ap (λ n. eqb n (class_number k)) (sym (ready-number ready))

  pub next-named : (ss : List String) → known ss ≡ true → named ss (front (drop c.at ts)) ≡ numbered ss (number_at w c)
  next-named ss h = named-number ss (front (drop c.at ts)) h ∙ ap (numbered ss) (sym (ready-number ready))

  -- past the token if the test says so
  passes : (b : Bool) (k : ℕ) → 0 < k → b ≡ eqb (number_at w c) k → Reads ts w w c no_entries (if b then Done (front (drop c.at ts), rest (drop c.at ts)) otherwise stop (drop c.at ts))
      (expected w c k)
  passes true k l e =
      let same : number_at w c ≡ k = eqb-true (number_at w c) k (sym e) in
      let here = took_token ready (before-end w c (omega arith)) in
      subst (λ us. Reads ts w w c no_entries (Done (front (drop c.at ts), us)) (expected w c k)) (drop-next c.at ts)
      (subst (λ p. Reads ts w w c no_entries (Done (front (drop c.at ts), drop (c.at + 1) ts)) p) (sym (expected-here w c k same)) (read_done (front (drop c.at ts)) here))
  passes false k l e =
      subst (λ p. Reads {A = Token} ts w w c no_entries (stop (drop c.at ts)) p) (sym (expected-not w c k (eqb-false (number_at w c) k (sym e)))) (read-stop ready)

  pub expect-reads : (s : String) → is_one_of spellings (ascii s) ≡ true → Reads ts w w c no_entries (expect s (drop c.at ts)) (expected w c (fixed s))
  expect-reads s h = passes (next s (drop c.at ts)) (fixed s) (omega arith) (next_number_lem s h)

  pub expect_of-reads : (k : Class) → is_plain k ≡ true → 0 < class_number k → Reads ts w w c no_entries (expect_of k (drop c.at ts)) (expected w c (class_number k))
  expect_of-reads k h l = passes (is_of k (front (drop c.at ts))) (class_number k) l (next-class k h)
