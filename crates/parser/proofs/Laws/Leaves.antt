-- A token of a class with an entry of its own: refused, or read and its entry written.
use Rattle.std.specs.Prelude.{Ok, Err}
use Prim.Native.Nat.{ℕ, ◌+◌, ◌<◌}
use native.Mathlib.Omega.{arith}
use mathlib.Core.List.{List}
use mathlib.Core.Option.{some}
use mathlib.Core.Path.{◌≡◌, sym, ◌∙◌, subst}
use lib.ListN.{drop}
use Rattle.node.specs.Returned.{refusal}
use Rattle.language.specs.Tokens.{Class}
use Rattle.language.specs.Grammar.{Tokens, front, expect_of}
use Rattle.entries.specs.Kinds as Kind
use Rattle.entries.specs.Flat.{Entry, leaf}
use Rattle.entries.specs.Stored.{first_entry, entry_word, put_entry}
use Rattle.entries.specs.declared.Cursor.{Cursor}
use Rattle.entries.specs.Parse.{Parse}
use Rattle.entries.specs.Cursors.{Ready, Writes, emitted_of, expected}
use Rattle.entries.specs.CursorLaws.{before-end}
use Rattle.entries.specs.Reads.{Reads}
use Rattle.entries.specs.ReadsLaws.{kept_same, kept_put}
use Rattle.entries.specs.TokenReads.{took_token}
use Rattle.parser.specs.Spelling.{Numbers}
use Rattle.parser.proofs.Laws.Rows.{took-emit, reads-done, reads-refused}
use Rattle.parser.proofs.Laws.Passing.{Passed, Stopped, stopped, expectOf-here, expectOf-not, keeps_here}

module _ {ts : Tokens} {w : List ℕ} {c : Cursor} (ready : Ready ts w c) {k : Class} {number : ℕ} (names : Numbers k number) where
  pub leaf-refused : {f : _ → List Entry} {q : Parse} {n p : ℕ} → q ≡ expected w c number → q ≡ Err (refusal n p) → Reads ts w w c f (expect_of k (drop c.at ts)) q
  leaf-refused {n = n} {p} x m = reads-refused m (expectOf-not ready k names.plain (subst (λ m. Stopped w c m n p) (sym names.same) (stopped w c number x m))) (kept_same w c.out)

  module _ (kind : ℕ) (small : kind < Kind.limit) (positive : 0 < number) {d : Cursor} (h : Passed w c d number) where
    pub leaf-read : {v : List ℕ} {e : Cursor} → v ≡ put_entry w d.out kind c.at 1 → e ≡ emitted_of d → Reads ts w v c (leaf kind) (expect_of k (drop c.at ts)) (Ok e)
    leaf-read {v} {e} u f =
        let inside : c.at < c.count = before-end w c (omega (arith, h.token)) in
        let token = took_token ready inside in
        let t = took-emit kind c.at 1 (some (front (drop c.at ts))) ready.less token (omega arith) small (omega (arith, ready.fits.few)) (omega arith) (keeps_here ready inside) in
        let read = expectOf-here ready k names.plain (h.token ∙ sym names.same) in
        subst (λ x. Reads ts w v c (leaf kind) (expect_of k (drop c.at ts)) (Ok x)) (sym f)
        (subst (λ x. Reads ts w x c (leaf kind) (expect_of k (drop c.at ts)) (Ok (emitted_of d))) (sym u)
        (subst (λ (x : Cursor). Reads ts w (put_entry w x.out kind c.at 1) c (leaf kind) (expect_of k (drop c.at ts)) (Ok (emitted_of x))) (sym h.next.cursor)
        (reads-done (front (drop c.at ts)) read (kept_put w c.out (first_entry + c.out) (entry_word kind c.at 1) (omega arith)
        (omega (arith, ready.less, ready.fits.few, ready.fits.inside))) t)))

-- what writing the entry asks for
pub leaf-writes : {ts : Tokens} {w : List ℕ} {c d : Cursor} {kind number : ℕ} → Ready ts w c → kind < Kind.limit → 0 < number → Passed w c d number → Writes w d kind c.at 1
leaf-writes {w = w} {c} {d} ready small positive h =
    let inside : c.at < c.count = before-end w c (omega (arith, h.token)) in
    record {
      room = ready.fits.room;
      few = omega (arith, h.next.out, ready.less, ready.fits.few);
      kind_fits = small;
      index-fits = omega (arith, ready.fits.few);
      size_fits = omega arith;
    }
