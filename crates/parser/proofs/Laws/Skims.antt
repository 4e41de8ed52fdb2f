-- Reading without entries: one reader after another, and a sign or word by its number.
use Rattle.std.specs.Prelude.{Ok, Err}
use Prim.Native.Nat.{ℕ, ◌<◌}
use Prim.Native.String.{String}
use mathlib.Core.List.{List}
use mathlib.Core.Bool.{true}
use mathlib.Core.Path.{◌≡◌, refl, sym, ap, ◌∙◌, subst}
use lib.ListN.{drop}
use Rattle.node.specs.Returned.{refusal}
use Rattle.node.specs.Result.{Done, ◌>>=◌}
use Rattle.node.proofs.ResultLaws.{bind_refused, bind_to}
use Rattle.language.specs.Tokens.{Class}
use Rattle.language.specs.Grammar.{Tokens, Read, expect, expect_of}
use Rattle.lexer.specs.Numbers.{class_number}
use Rattle.lexer.specs.NumberLaws.{is_plain}
use Rattle.entries.specs.declared.Cursor.{Cursor}
use Rattle.entries.specs.Parse.{Parse}
use Rattle.entries.specs.Cursors.{Ready, expected}
use Rattle.entries.specs.Reads.{Reads, no_entries}
use Rattle.entries.specs.ReadsLaws.{kept_same}
use Rattle.entries.specs.TokenReads.{took_none, expect-reads, expect_of-reads}
use Rattle.parser.specs.Spelling.{Spells}
use Rattle.parser.specs.Steps.{then_id}
use Rattle.parser.proofs.Laws.Rows.{accepted, was-refused, reads-refused, reads-tail}

abbrev pub Skims : {A : Type 0} → Tokens → List ℕ → Cursor → Read A → Parse → Type 0
Skims ts w c x q = Reads ts w w c no_entries x q

module _ {A B : Type 0} {ts : Tokens} {w : List ℕ} {c : Cursor} {x : Read A} {q : Parse} (r : Skims ts w c x q) (K : A × Tokens → Read B) where
  -- refused
  pub skim_refused : {n p : ℕ} → q ≡ Err (refusal n p) → Skims ts w c (x >>= K) q
  skim_refused m = reads-refused m (bind_refused _ _ _ K (was-refused m r)) (kept_same w c.out)

  -- then the next
  pub skim_then : {d : Cursor} {q' : Parse} → q ≡ Ok d → ((a : A) → Skims ts w d (K (a, drop d.at ts)) q') → Skims ts w c (x >>= K) q'
  skim_then m next =
      let a = accepted m r in
      reads-tail (λ b. b) (bind_to _ _ K a.read ∙ then_id (K (a.value, _))) (λ b. refl) (kept_same w c.out) a.took (next a.value)

module _ {ts : Tokens} {w : List ℕ} {c : Cursor} (ready : Ready ts w c) where
  pub expect_spelt : (s : String) {k : ℕ} {q : Parse} → Spells s k → q ≡ expected w c k → Skims ts w c (expect s (drop c.at ts)) q
  expect_spelt s h e = subst (Skims ts w c (expect s (drop c.at ts))) (sym (e ∙ ap (expected w c) (sym h.same))) (expect-reads ready s h.known)

  pub expect-class : (k : Class) {q : Parse} → is_plain k ≡ true → 0 < class_number k → q ≡ expected w c (class_number k) → Skims ts w c (expect_of k (drop c.at ts)) q
  expect-class k p l e = subst (Skims ts w c (expect_of k (drop c.at ts))) (sym e) (expect_of-reads ready k p l)

  -- another value of what is read
  pub skim_map : {A B : Type 0} {x : Read A} {q : Parse} (make : A → B) → Skims ts w c x q → Skims ts w c (x >>= λ (a, us). Done (make a, us)) q
  skim_map make r = reads-tail make refl (λ a. refl) (kept_same w c.out) (took_none ready) r

pub skims_as : {A : Type 0} {ts : Tokens} {w : List ℕ} {c : Cursor} {x y : Read A} {q : Parse} → x ≡ y → Skims ts w c y q → Skims ts w c x q
skims_as {ts = ts} {w} {c} {q = q} e r = subst (λ z. Skims ts w c z q) (sym e) r
