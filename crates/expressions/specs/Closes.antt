-- The trees of frames that need a sign behind them, one law for each class; the refusal where the sign is another one.
use Rattle.std.specs.Prelude.{ℕ, suc, ◌+◌, ◌<◌, List, true, ◌≡◌, refl, drop, Err}
use Prim.Native.String.{String}
use Rattle.std.proofs.Common.{arith, append_assoc, sym, ◌∙◌, subst, lit<}
use Rattle.std.proofs.Math.Option.{some}
use Rattle.std.proofs.Math.Path.{ap}
use borrow.Author.Tests.{eq-eqb, ne_eqb}
use Rattle.node.specs.Returned.{refusal}
use Rattle.node.specs.Result.{Done, ◌>>=◌}
use Rattle.node.proofs.ResultLaws.{bind_at}
use Rattle.language.specs.Bytes.{ascii, is_one_of}
use Rattle.language.specs.Tokens.{Token}
use Rattle.language.specs.Tree.{Expr}
use Rattle.language.specs.Grammar.{Tokens, Read, front, rest, stop, next, expect}
use Rattle.language.proofs.Laws.Basics.Tests.{pick, leave}
use Rattle.lexer.specs.Numbers.{spellings, fixed}
use Rattle.entries.specs.Kinds as Kind
use Rattle.entries.specs.Flat.{under, flat}
use Rattle.entries.specs.declared.Cursor.{Cursor}
use Rattle.entries.specs.Cursors.{Ready, number_at, next_of, refused_at}
use Rattle.entries.specs.CursorLaws.{ready-place, drop-next}
use Rattle.entries.specs.TokenReads.{next_number_lem}
use Rattle.entries.specs.Reads.{Outcome}
use Rattle.entries.specs.ReadsLaws.{kept_same}
use Rattle.expressions.specs.declared.stack.Machine.{Machine}
use Rattle.expressions.specs.declared.stack.Turn.TheVariants.{Ended}
use Rattle.expressions.specs.Classes.{Round, Bars, Square, Last, class_number}
use Rattle.expressions.specs.Frames.{Frame, turned, built_by, plug}
use Rattle.expressions.specs.Stack.{slot_class, top_slot}
use Rattle.expressions.specs.StackLaws.{stacked_next}
use Rattle.expressions.specs.States.{credits, Turned}
use Rattle.expressions.specs.StateLaws.{plug-refused}
use Rattle.expressions.specs.Complete.{Complete}
use Rattle.expressions.specs.CompleteLaws.{popping, sign-inside}
use Rattle.expressions.specs.Wholes.{Built}
use Rattle.expressions.specs.WholeLaws.{built}

-- the sign that is expected stands at the cursor, or another
module _ {ts : Tokens} {w : List ℕ} {c : Cursor} (ready : Ready ts w c) {B : Type 0} (sign : String) (known : is_one_of spellings (ascii sign) ≡ true) (K : Token × Tokens → Read B) where
  abbrev us : Tokens
  us = drop c.at ts

  pub expect-here : number_at w c ≡ fixed sign → (expect sign us >>= K) ≡ K (front us, drop (c.at + 1) ts)
  expect-here e =
      ap (λ (r : Read Token). r >>= K) (pick (next sign us) (Done (front us, rest us)) (stop us) (next_number_lem ready sign known ∙ eq-eqb (number_at w c) (fixed sign) e))
      ∙ bind_at (front us, rest us) K ∙ ap (λ vs. K (front us, vs)) (sym (drop-next c.at ts))

  pub expect_other : (number_at w c ≡ fixed sign → ⊥) → (expect sign us >>= K) ≡ stop us
  unfolding ◌>>=◌
  expect_other f = ap (λ (r : Read Token). r >>= K) (leave (next sign us) (Done (front us, rest us)) (stop us) (next_number_lem ready sign known ∙ ne_eqb (number_at w c) (fixed sign) f))

-- nothing continues here
pub refused-here : {ts : Tokens} {s : Cursor} {x : Read Expr} {w : List ℕ} {m : Machine} (Gs : List Frame) (c : Cursor) → Ready ts w c → x ≡ plug Gs (stop (drop c.at ts))
    → Turned ts s x w w m (Ended (refused_at w c))
refused-here {ts} {s} {x} {w} Gs c ready same =
    record {
      kept = kept_same w s.out;
      after =
          subst (λ y. Outcome ts w s flat y (refused_at w c)) (sym (same ∙ plug-refused Gs 4 (front (drop c.at ts)).at)) (ap (λ (p : ℕ). Err (refusal 4 p)) (ready-place ready));
    }

module _ {ts : Tokens} {s : Cursor} {x : Read Expr} {w : List ℕ} {m : Machine} (h : Complete ts s x w m) (deep : 0 < m.depth) where
  abbrev top : ℕ
  top = top_slot w m.depth

  pub built_round : slot_class top ≡ class_number Round → number_at w m.c ≡ fixed ")" → Built ts s x w m (next_of m.c) Kind.paren 1
  built_round e k =
      let q = popping h Round deep e in
      let F = turned Round q.0 in
      built F q.1 q.2 (next_of m.c) (suc (0 + credits q.1)) (stacked_next q.2.stacked (sign-inside h _ k (lit< tt))) (built_by Round F q.2.tree) Kind.paren Kind.paren refl (lit< tt) (some F.token)
      refl (λ j z. z) (omega arith) (omega arith)
      (q.2.same ∙ ap (plug q.1) (expect-here h.stacked.ready ")" refl _ k))

  pub built_bars : slot_class top ≡ class_number Bars → number_at w m.c ≡ fixed "|" → Built ts s x w m (next_of m.c) Kind.measure 1
  built_bars e k =
      let q = popping h Bars deep e in
      let F = turned Bars q.0 in
      built F q.1 q.2 (next_of m.c) (suc (0 + credits q.1)) (stacked_next q.2.stacked (sign-inside h _ k (lit< tt))) (built_by Bars F q.2.tree) Kind.measure Kind.measure refl (lit< tt) (some F.token)
      refl (λ j z. z) (omega arith) (omega arith)
      (q.2.same ∙ ap (plug q.1) (expect-here h.stacked.ready "|" refl _ k))

  pub built_index : slot_class top ≡ class_number Square → number_at w m.c ≡ fixed "]" → Built ts s x w m (next_of m.c) Kind.index 1
  built_index e k =
      let q = popping h Square deep e in
      let F = turned Square q.0 in
      built F q.1 q.2 (next_of m.c) (suc (0 + credits q.1)) (stacked_next q.2.stacked (sign-inside h _ k (lit< tt))) (built_by Square F q.2.tree) Kind.index Kind.index refl (lit< tt)
      (some F.token) refl (λ j z. z) (omega arith) (omega arith)
      (q.2.same ∙ ap (plug q.1) (expect-here h.stacked.ready "]" refl _ k))

  pub built_range : slot_class top ≡ class_number Last → number_at w m.c ≡ fixed "}" → Built ts s x w m (next_of m.c) Kind.range 3
  built_range e k =
      let q = popping h Last deep e in
      let F = turned Last q.0 in
      built F q.1 q.2 (next_of m.c) (suc (0 + credits q.1)) (stacked_next q.2.stacked (sign-inside h _ k (lit< tt))) (built_by Last F q.2.tree) Kind.range Kind.range refl (lit< tt) (some F.token)
      (ap (λ es. under Kind.range (some F.token) es) (sym (append_assoc (flat F.first) (flat F.second) (flat q.2.tree)))) (λ j z. z) (omega arith) (omega arith)
      (q.2.same ∙ ap (plug q.1) (expect-here h.stacked.ready "}" refl _ k))

  -- another sign
  pub unclosed_round : slot_class top ≡ class_number Round → (number_at w m.c ≡ fixed ")" → ⊥) → Turned ts s x w w m (Ended (refused_at w m.c))
  unclosed_round e f = let q = popping h Round deep e in refused-here q.1 m.c h.stacked.ready (q.2.same ∙ ap (plug q.1) (expect_other h.stacked.ready ")" refl _ f))

  pub unclosed_bars : slot_class top ≡ class_number Bars → (number_at w m.c ≡ fixed "|" → ⊥) → Turned ts s x w w m (Ended (refused_at w m.c))
  unclosed_bars e f = let q = popping h Bars deep e in refused-here q.1 m.c h.stacked.ready (q.2.same ∙ ap (plug q.1) (expect_other h.stacked.ready "|" refl _ f))

  pub unclosed_index : slot_class top ≡ class_number Square → (number_at w m.c ≡ fixed "]" → ⊥) → Turned ts s x w w m (Ended (refused_at w m.c))
  unclosed_index e f = let q = popping h Square deep e in refused-here q.1 m.c h.stacked.ready (q.2.same ∙ ap (plug q.1) (expect_other h.stacked.ready "]" refl _ f))

  pub unclosed_range : slot_class top ≡ class_number Last → (number_at w m.c ≡ fixed "}" → ⊥) → Turned ts s x w w m (Ended (refused_at w m.c))
  unclosed_range e f = let q = popping h Last deep e in refused-here q.1 m.c h.stacked.ready (q.2.same ∙ ap (plug q.1) (expect_other h.stacked.ready "}" refl _ f))
