-- The parts of INFO: each way through their readers.
use Rattle.std.specs.Prelude.{Ok, Err}
use Prim.Native.Nat.{ℕ, zero, suc, ◌≤◌, ◌<◌}
use Prim.Native.String.{String}
use native.Mathlib.Omega.{arith}
use mathlib.Core.List.{List, []}
use mathlib.Core.Bool.{Bool, true, false}
use mathlib.Core.Path.{◌≡◌, refl, sym, ap, ◌∙◌}
use lib.ListN.{length, drop, length-drop}
use Rattle.node.specs.Returned.{refusal}
use Rattle.node.specs.Result.{Done, ◌>>=◌}
use Rattle.node.proofs.ResultLaws.{bind_again}
use Rattle.language.specs.Bytes.{if◌then◌otherwise◌}
use Rattle.language.specs.Tokens.{Token, Name, Quoted, is_of}
use Rattle.language.specs.Tree.{Model, Mealy, Moore}
use Rattle.language.specs.Grammar.{Tokens, Read, front, rest, stop, next, expect, expect_of}
use Rattle.language.specs.Sections.{described, model_of, strict_of, tag_of, tags_of, info_end}
use Rattle.language.proofs.Laws.Basics.Tests.{pick, leave}
use Rattle.lexer.specs.Numbers.{fixed, class_number}
use Rattle.entries.specs.declared.Cursor.{Cursor}
use Rattle.entries.specs.Parse.{Parse}
use Rattle.entries.specs.Cursors.{Ready, number_at, expected}
use Rattle.entries.specs.Reads.{Took}
use Rattle.entries.specs.ReadsLaws.{kept_same}
use Rattle.entries.specs.TokenReads.{took_none}
use Rattle.parser.specs.Information.{pair_of}
use Rattle.parser.specs.Steps.{tags_refused, tags-more, tags-last}
use Rattle.parser.proofs.Laws.Rows.{accepted, was-refused, took_then, reads-done, reads-refused}
use Rattle.parser.proofs.Laws.Passing.{Next, here, elsewhere, class-here, class-elsewhere, inside, past-ready, rest-past, took_past, reads-behind}
use Rattle.parser.proofs.Laws.Loops.{left_some}
use Rattle.parser.proofs.Laws.Skims.{Skims, skims_as, skim_map, expect_spelt, expect-class}

pub described_pair : (s : String) (ts : Tokens) → described s ts ≡ (pair_of s ":" ts >>= λ (c, us). expect_of Quoted us)
described_pair s ts = sym (bind_again (expect s ts) _ _)

-- a value in place of the token
valued : (b : Bool) (us : Tokens) → ◌≡◌ {A = Read Model} (if b then Done (Moore, rest us) otherwise stop us) ((if b then Done (front us, rest us) otherwise stop us) >>= λ (t, vs). Done (Moore, vs))
unfolding ◌>>=◌
valued true us = refl
valued false us = refl

module _ {ts : Tokens} {w : List ℕ} {c : Cursor} (ready : Ready ts w c) where
  -- a token that decides by itself
  module _ {A : Type 0} {x : Read A} {d : Cursor} (within : c.at < c.count) (n : Next c d) where
    past : (a : A) → x ≡ Done (a, rest (drop c.at ts)) → Skims ts w c x (Ok d)
    past a e = reads-done a (e ∙ ap (λ us. Done (a, us)) (rest-past ts n)) (kept_same w c.out) (took_past (took_none ready) n within)

  -- the model
  pub model_first : {d : Cursor} → number_at w c ≡ fixed "Mealy" → Next c d → Skims ts w c (model_of (drop c.at ts)) (Ok d)
  model_first k n = past (inside ready k (omega arith)) n Mealy (pick (next "Mealy" (drop c.at ts)) _ _ (here ready "Mealy" refl k))

  pub model_second : {q : Parse} → (number_at w c ≡ fixed "Mealy" → ⊥) → q ≡ expected w c (fixed "Moore") → Skims ts w c (model_of (drop c.at ts)) q
  model_second k e =
      skims_as (leave (next "Mealy" (drop c.at ts)) _ _ (elsewhere ready "Mealy" refl k) ∙ valued (next "Moore" (drop c.at ts)) (drop c.at ts))
      (skim_map ready (λ t. Moore) (expect_spelt ready "Moore" (record { known = refl; same = refl }) e))

  -- a tag
  pub tag_first : {d : Cursor} → number_at w c ≡ class_number Name → Next c d → Skims ts w c (tag_of (drop c.at ts)) (Ok d)
  tag_first k n = past (inside ready k (omega arith)) n (front (drop c.at ts)) (pick (is_of Name (front (drop c.at ts))) _ _ (class-here ready Name refl k))

  pub tag_second : {q : Parse} → (number_at w c ≡ class_number Name → ⊥) → q ≡ expected w c (class_number Quoted) → Skims ts w c (tag_of (drop c.at ts)) q
  tag_second k e = skims_as (leave (is_of Name (front (drop c.at ts))) _ _ (class-elsewhere ready Name refl k)) (expect-class ready Quoted refl (omega arith) e)

  -- `, Strict`
  pub strict_none : (number_at w c ≡ fixed "," → ⊥) → Skims ts w c (strict_of (drop c.at ts)) (Ok c)
  strict_none k = reads-done false (leave (next "," (drop c.at ts)) _ _ (elsewhere ready "," refl k)) (kept_same w c.out) (took_none ready)

  pub strict_some : {d : Cursor} {q : Parse} → number_at w c ≡ fixed "," → Next c d → q ≡ expected w d (fixed "Strict") → Skims ts w c (strict_of (drop c.at ts)) q
  strict_some k n e =
      let within = inside ready k (omega arith) in
      let later = past-ready ready n within in
      reads-behind ready n within (pick (next "," (drop c.at ts)) _ _ (here ready "," refl k) ∙ ap (λ us. expect "Strict" us >>= λ (t, vs). Done (true, vs)) (rest-past ts n))
      (skim_map later (λ t. true) (expect_spelt later "Strict" (record { known = refl; same = refl }) e))

  -- TAGS or the end of INFO
  pub no_tags : {q : Parse} → (number_at w c ≡ fixed "TAGS" → ⊥) → q ≡ expected w c (fixed "}") → Skims ts w c (info_end (drop c.at ts)) q
  no_tags k e = skims_as (leave (next "TAGS" (drop c.at ts)) _ _ (elsewhere ready "TAGS" refl k)) (expect_spelt ready "}" (record { known = refl; same = refl }) e)

  pub with_tags : {d : Cursor} {q : Parse} → number_at w c ≡ fixed "TAGS" → Next c d → Skims ts w d (expect ":" (drop d.at ts) >>= λ (o, us). tags_of (length us) us >>= λ (t, us). expect "}" us) q
      → Skims ts w c (info_end (drop c.at ts)) q
  with_tags k n r =
      reads-behind ready n (inside ready k (omega arith))
      (pick (next "TAGS" (drop c.at ts)) _ _ (here ready "TAGS" refl k) ∙ ap (λ us. expect ":" us >>= λ (o, us). tags_of (length us) us >>= λ (t, us). expect "}" us) (rest-past ts n)) r

-- the loop over tags
pub record Tagging (x : Read Token) (ts : Tokens) (w : List ℕ) (s d : Cursor) : Type 0 where
  pub fuel : ℕ
  pub enough : length (drop d.at ts) ≤ suc fuel
  pub answer : x ≡ tags_of (suc fuel) (drop d.at ts)
  pub took : Took ts w s d []

pub tagging_start : {ts : Tokens} {w : List ℕ} {s : Cursor} → Ready ts w s → Tagging (tags_of (length (drop s.at ts)) (drop s.at ts)) ts w s s
tagging_start {ts} {w} {s} ready = go (length (drop s.at ts)) refl
  where
    go : (n : ℕ) → length (drop s.at ts) ≡ n → Tagging (tags_of (length (drop s.at ts)) (drop s.at ts)) ts w s s
    go zero e = absurd (omega (arith, left_some ready))
    go (suc n) e = record { fuel = n; enough = omega arith; answer = ap (λ k. tags_of k (drop s.at ts)) e; took = took_none ready }

module _ {x : Read Token} {ts : Tokens} {w : List ℕ} {s d : Cursor} (h : Tagging x ts w s d) {q : Parse} (r : Skims ts w d (tag_of (drop d.at ts)) q) where
  pub tags_stop : {n p : ℕ} → q ≡ Err (refusal n p) → Skims ts w s x q
  tags_stop m = reads-refused m (h.answer ∙ tags_refused h.fuel (drop d.at ts) (was-refused m r)) (kept_same w s.out)

  module _ {e : Cursor} (m : q ≡ Ok e) where
    pub tags-end : (number_at w e ≡ fixed "," → ⊥) → Skims ts w s x (Ok e)
    tags-end k =
        let a = accepted m r in
        reads-done a.value (h.answer ∙ tags-last h.fuel (drop d.at ts) a.value (drop e.at ts) a.read (elsewhere a.took.ready "," refl k)) (kept_same w s.out)
        (took_then h.took (kept_same w d.out) a.took)

    pub tags-again : {f : Cursor} → number_at w e ≡ fixed "," → Next e f → Tagging x ts w s f
    tags-again {f} k n = go h.fuel refl
      where
        t : Took ts w d f []
        t = took_past (accepted m r).took n (inside (accepted m r).took.ready k (omega arith))

        go : (i : ℕ) → h.fuel ≡ i → Tagging x ts w s f
        go zero o = absurd (omega (arith, left_some t.ready, h.enough, length-drop f.at ts, length-drop d.at ts, n.at, (accepted m r).took.onward.further))
        go (suc i) o =
            let a = accepted m r in
            record {
              fuel = i;
              enough = omega (arith, left_some t.ready, h.enough, length-drop f.at ts, length-drop d.at ts, n.at, a.took.onward.further);
              answer =
                  h.answer ∙ tags-more h.fuel (drop d.at ts) a.value (drop e.at ts) a.read (here a.took.ready "," refl k)
                  ∙ ap (tags_of h.fuel) (rest-past ts n) ∙ ap (λ j. tags_of j (drop f.at ts)) o;
              took = took_then h.took (kept_same w d.out) t;
            }
