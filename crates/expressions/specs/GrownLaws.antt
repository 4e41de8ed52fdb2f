-- An entry over the last trees: what it asks for is there, and what it leaves.
use Rattle.std.specs.Prelude.{ℕ, suc, ◌+◌, ◌-◌, ◌<◌, List, [], ◌∷◌, ◌++◌, ◌≡◌, length}
use Rattle.std.proofs.Common.{arith, append_assoc, ap, ◌∙◌, subst, length-append}
use Rattle.std.proofs.Math.Option.{Option}
use Rattle.language.specs.Limits.{max_tokens}
use Rattle.language.specs.Tokens.{Token}
use Rattle.language.specs.Tree.{Expr}
use Rattle.language.specs.Grammar.{Tokens, Read}
use Rattle.language.proofs.Laws.Basics.Lists.{All as Every}
use Rattle.entries.specs.Kinds as Kind
use Rattle.entries.specs.Flat.{Entry, under}
use Rattle.entries.specs.Stored.{first_entry, entry_word, Keeps}
use Rattle.entries.specs.declared.Cursor.{Cursor}
use Rattle.entries.specs.Cursors.{emitted_of}
use Rattle.entries.specs.Reads.{Kept}
use Rattle.entries.specs.ReadsLaws.{kept_put, kept_then}
use Rattle.expressions.specs.declared.stack.Machine.{Machine}
use Rattle.expressions.specs.declared.stack.Turn.{Turn}
use Rattle.expressions.specs.Stack.{Slot, Stacked, Rooted, start_of, Trees}
use Rattle.expressions.specs.StackLaws.{stacked_apart, stacked_few, stacked_emit}
use Rattle.expressions.specs.States.{behind, Turned}
use Rattle.expressions.specs.SpanLaws.{behind-append, spans}
use Rattle.expressions.specs.Grown.{Grows, grown_in}

module _ {ts : Tokens} {s : Cursor} {w : List ℕ} {c : Cursor} {depth : ℕ} {slots : List Slot} (n : ℕ) (P : List Entry) (css : List (List Entry)) (A : List Entry) (firm : Every Rooted css)
    (rooted : Rooted A)
    (h : Stacked ts s w c depth slots (behind P css ++ A) (suc n)) (kind j : ℕ) (small : kind < Kind.limit) (fits : j < max_tokens) where
  abbrev count : ℕ
  count = suc (length css)

  spanned : Trees w c.out count × (start_of w c.out count ≡ s.out + length P)
  spanned = spans w ts s.out c.out P css A firm rooted h.out h.entries

  lengths : length (behind P css ++ A) ≡ length P + length (behind [] css ++ A)
  lengths =
      let l = length-append (behind P css) A in
      let b = ap length (behind-append P css) in
      let q = length-append P (behind [] css) in
      let r = length-append (behind [] css) A in
      omega arith

  pub grows : Grows w c kind j count
  grows =
      let apart = stacked_apart h in
      let few = stacked_few h in
      record {
        room = h.ready.fits.room;
        few = omega arith;
        kind_fits = small;
        index-fits = fits;
        trees = spanned.0;
        begins = (let below = spanned.1 in let all = h.out in let l = lengths in omega arith);
      }

  pub kept-grown : Kept w (grown_in w c kind j count) s.out
  kept-grown =
      let apart = stacked_apart h in
      let few = stacked_few h in
      kept_put w s.out (first_entry + c.out) (entry_word kind j (1 + (c.out - start_of w c.out count))) (omega (arith, h.out)) (omega arith)

  pub grown : (t : Option Token) → Keeps ts j t → Stacked ts s (grown_in w c kind j count) (emitted_of c) depth slots (P ++ under kind t (behind [] css ++ A)) n
  grown t keeps =
      let size : 1 + (c.out - start_of w c.out count) ≡ suc (length (behind [] css ++ A)) = (let below = spanned.1 in let all = h.out in let l = lengths in omega arith) in
      let apart = stacked_apart h in
      let few = stacked_few h in
      let own : ℕ → List Entry = λ z. record { kind = kind; token = t; size = z } ∷ [] in
      let same : (behind P css ++ A) ++ own (1 + (c.out - start_of w c.out count)) ≡ P ++ under kind t (behind [] css ++ A) =
      ap (λ z. (behind P css ++ A) ++ own z) size
      ∙ ap (λ l. (l ++ A) ++ own (suc (length (behind [] css ++ A)))) (behind-append P css)
      ∙ ap (λ l. l ++ own (suc (length (behind [] css ++ A)))) (append_assoc P (behind [] css) A)
      ∙ append_assoc P (behind [] css ++ A) (own (suc (length (behind [] css ++ A)))) in
      subst (λ es. Stacked ts s (grown_in w c kind j count) (emitted_of c) depth slots es n) same
      (stacked_emit h kind j (1 + (c.out - start_of w c.out count)) t keeps small fits (omega (arith, h.out)))

-- a step that first wrote something
pub turned-after : {ts : Tokens} {s : Cursor} {x : Read Expr} {w u v : List ℕ} {m : Machine} {r : Turn} → Kept w u s.out → Turned ts s x u v m r → Turned ts s x w v m r
turned-after k t = record { kept = kept_then (omega arith) k t.kept; after = t.after }
