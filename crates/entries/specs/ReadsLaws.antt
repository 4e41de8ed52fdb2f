-- How the contracts of the parser's functions are put together. Two laws carry every `?`: a refusal that is handed up, and an accepted part with what is
-- read behind it; the others begin and end such a chain.
use Rattle.std.specs.Prelude.{ℕ, ◌+◌, ◌≤◌, ◌<◌, List, ◌≡◌, Ok, Err}
use Rattle.std.proofs.Common.{arith, sym, ◌∙◌}
use Rattle.std.proofs.Math.Path.{refl, ap, subst}
use Rattle.std.proofs.Math.ListN.{drop}
use Rattle.node.specs.Returned.{refusal}
use Rattle.node.specs.Result.{Done, Refused, ◌>>=◌}
use Rattle.words.specs.Words.{put_word}
use Rattle.words.specs.WordLaws.{length-put, word_other, past-put}
use Rattle.language.specs.Limits.{work_bytes}
use Rattle.language.specs.Grammar.{Tokens, Read, stop}
use Rattle.entries.specs.Flat.{Entry}
use Rattle.entries.specs.Stored.{work_words, first_entry, entry_word, put_entry}
use Rattle.entries.specs.declared.Cursor.{Cursor}
use Rattle.entries.specs.Parse.{Parse}
use Rattle.entries.specs.Cursors.{Ready, next_of, emitted_of, refused_at}
use Rattle.entries.specs.CursorLaws.{ready-place}
use Rattle.entries.specs.Reads.{Kept, Onward, Took, Outcome, Reads}

-- what is kept stays kept
pub kept_same : (w : List ℕ) (out : ℕ) → Kept w w out
kept_same w out = record { len = refl; beyond = refl; words = λ i l. refl }

pub kept_then : {u v w : List ℕ} {m n : ℕ} → m ≤ n → Kept u v m → Kept v w n → Kept u w m
kept_then l h g = record { len = g.len ∙ h.len; beyond = g.beyond ∙ h.beyond; words = λ i b. g.words i (omega arith) ∙ h.words i b }

pub kept_fewer : {w v : List ℕ} {m n : ℕ} → m ≤ n → Kept w v n → Kept w v m
kept_fewer l h = record { len = h.len; beyond = h.beyond; words = λ i b. h.words i (omega arith) }

pub kept_put : (w : List ℕ) (out i v : ℕ) → first_entry + out ≤ i → i < work_words → Kept w (put_word w i v) out
kept_put w out i v l h =
    record { len = length-put w i v; beyond = past-put work_bytes w i v (omega arith); words = λ j b. word_other w i v j (omega arith) }

-- the tokens stay, so a function may read on
pub ready-kept : {ts : Tokens} {w v : List ℕ} {c : Cursor} {out : ℕ} → Kept w v out → Ready ts w c → Ready ts v c
ready-kept {ts} {w} {v} {c} k h =
    record {
      fits = record { room = omega (arith, k.len, h.fits.room); few = h.fits.few; short = h.fits.short; inside = h.fits.inside };
      tells =
          record {
            total = h.tells.total;
            stored = record { words = λ i l. k.words i (omega (arith, h.tells.total, h.fits.few)) ∙ h.tells.stored.words i l };
            places = h.tells.places;
            last = h.tells.last;
            last-place = h.tells.last-place;
          };
      less = h.less;
    }

-- one entry more
pub ready_emitted : {ts : Tokens} {w : List ℕ} {c : Cursor} (k j n : ℕ) → Ready ts w c → c.out + 1 < c.at → Ready ts (put_entry w c.out k j n) (emitted_of c)
ready_emitted {ts} {w} {c} k j n h l =
    let g = ready-kept (kept_put w c.out (first_entry + c.out) (entry_word k j n) (omega arith) (omega (arith, h.fits.few, h.fits.inside))) h in
    record { fits = record { room = g.fits.room; few = g.fits.few; short = g.fits.short; inside = g.fits.inside }; tells = g.tells; less = l }

-- cursors
pub onward-same : (c : Cursor) → Onward c c
onward-same c = record { count = refl; end = refl; further = omega arith; slack = omega arith }

pub onward_then : {a b c : Cursor} → Onward a b → Onward b c → Onward a c
onward_then f g = record { count = g.count ∙ f.count; end = g.end ∙ f.end; further = omega (arith, f.further, g.further); slack = omega (arith, f.slack, g.slack) }

pub onward-next : (c : Cursor) → Onward c (next_of c)
onward-next c = record { count = refl; end = refl; further = omega arith; slack = omega arith }

-- an answer is accepted or refused
never : {d : Cursor} {n p : ℕ} → ◌≡◌ {A = Parse} (Ok d) (Err (refusal n p)) → ⊥
never e = let z : ◌≡◌ {A = ℕ} 0 1 = cc in omega arith

module _ {A B : Type 0} {ts : Tokens} {w v : List ℕ} {s c : Cursor} {f : A → List Entry} {h : B → List Entry} (x : Read A) (K : A × Tokens → Read B) (from : s.out ≤ c.out) where
  -- a refusal is handed up
  pub read-refused : {r : Parse} {n p : ℕ} → r ≡ Err (refusal n p) → Reads ts w v c f x r → Reads ts w v s h (x >>= K) r
  unfolding ◌>>=◌
  read-refused e g = record { kept = kept_fewer from g.kept; says = go x e g.says }
    where
      go : (y : Read A) {r : Parse} {n p : ℕ} → r ≡ Err (refusal n p) → Outcome ts v c f y r → Outcome ts v s h (y >>= K) r
      go (Done a) e o = absurd (never (sym o.parsed ∙ e))
      go (Refused n p) e o = o

  -- an accepted part, then the rest
  pub read_then : {z : List ℕ} {q r : Parse} {d : Cursor} → q ≡ Ok d → Reads ts w v c f x q
      → ((a : A) → x ≡ Done (a, drop d.at ts) → Took ts v c d (f a) → Reads ts v z s h (K (a, drop d.at ts)) r) → Reads ts w z s h (x >>= K) r
  unfolding ◌>>=◌
  read_then {z} {q} {r} {d} e g then = go x refl g.says
    where
      go : (y : Read A) → x ≡ y → Outcome ts v c f y q → Reads ts w z s h (y >>= K) r
      go (Done (a, us)) m o =
          let same : o.cursor ≡ d = cc in
          let left : us ≡ drop d.at ts = o.left ∙ ap (λ (k : Cursor). drop k.at ts) same in
          let rest = then a (m ∙ ap (λ vs. Done (a, vs)) left) (subst (λ k. Took ts v c k (f a)) same o.took) in
          record { kept = kept_then (omega arith) (kept_fewer from g.kept) rest.kept; says = subst (λ vs. Outcome ts z s h (K (a, vs)) r) (sym left) rest.says }
      go (Refused n p) m o = absurd (never (sym e ∙ o))

-- the end of a chain: accepted, or refused here
module _ {B : Type 0} {ts : Tokens} {w : List ℕ} {s c : Cursor} {h : B → List Entry} where
  pub read_done : (b : B) → Took ts w s c (h b) → Reads ts w w s h (Done (b, drop c.at ts)) (Ok c)
  read_done b t = record { kept = kept_same w s.out; says = record { cursor = c; parsed = refl; left = refl; took = t } }

  pub read-stop : Ready ts w c → Reads ts w w s h (stop (drop c.at ts)) (refused_at w c)
  read-stop r = record { kept = kept_same w s.out; says = ap (λ (p : ℕ). Err (refusal 4 p)) (ready-place r) }

-- buffer changes before the rest
pub read-after : {B : Type 0} {ts : Tokens} {w v z : List ℕ} {s : Cursor} {h : B → List Entry} (x : Read B) {r : Parse} → Kept w v s.out → Reads ts v z s h x r → Reads ts w z s h x r
read-after x k g = record { kept = kept_then (omega arith) k g.kept; says = g.says }
