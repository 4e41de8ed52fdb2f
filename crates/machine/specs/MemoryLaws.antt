-- What stands in the memory stays where two memories agree; a frame written below, a word stored.
use Rattle.std.specs.Prelude.{ℕ, suc, ◌+◌, ◌≤◌, ◌<◌, List, [], ◌∷◌, ◌++◌, ◌≡◌, refl, length, get_or, drop, take, set}
use Rattle.std.proofs.Common.{append_assoc, sym, ap, ◌∙◌, subst, arith, add-zero, length-set, drop-drop, get_or-drop, get_or-set_other, drop-set-lt, drop_at, length-take-le}
use Rattle.std.proofs.Math.Decide.{dec_lt}
use Rattle.std.proofs.Math.Numerals.{unary_clauses}
use Rattle.std.proofs.lemmas.List.Edits.{sets, sets-eq}
use Rattle.std.proofs.Math.Seq.{length-sets}
use Rattle.basics.specs.Lists.{get_or-sets-below}
use Rattle.name_values.specs.World.{numbered}
use Rattle.name_values.proofs.AgreesLaws.{numbered-last, numbered-before}
use Rattle.machine.specs.Memory.{Regions, first_kept, frame_words, free_of, free_word, Held, Slotted, Lies, nowhere, kept_set, value, Keeps, Agree, Framed, spread}
use Rattle.machine.specs.declared.Words.{Words}

-- numbers that stand somewhere
pub held_kept : (mem mem' : List ℕ) (at : ℕ) (l : List ℕ) → ((i : ℕ) → at ≤ i → i < at + length l → get_or mem' i 0 ≡ get_or mem i 0) → Held mem at l → Held mem' at l
unfolding Held
held_kept mem mem' at [] f h = tt
held_kept mem mem' at (x ∷ l) f h = (f at (omega arith) (omega arith) ∙ h.0, held_kept mem mem' (suc at) l (λ i a b. f i (omega arith) (omega arith)) h.1)

pub held_none : (mem : List ℕ) (at : ℕ) → Held mem at []
unfolding Held
held_none mem at = tt

pub held_one : (mem : List ℕ) (at x : ℕ) → get_or mem at 0 ≡ x → Held mem at (x ∷ [])
unfolding Held
held_one mem at x e = (e, tt)

pub held_head : (mem : List ℕ) (at x : ℕ) (l : List ℕ) → Held mem at (x ∷ l) → get_or mem at 0 ≡ x
unfolding Held
held_head mem at x l h = h.0

pub held_tail : (mem : List ℕ) (at x : ℕ) (l : List ℕ) → Held mem at (x ∷ l) → Held mem (suc at) l
unfolding Held
held_tail mem at x l h = h.1

pub held_append : (mem : List ℕ) (at : ℕ) (k l : List ℕ) → Held mem at k → Held mem (at + length k) l → Held mem at (k ++ l)
unfolding Held
held_append mem at [] l h g = rw add-zero at g
held_append mem at (x ∷ k) l h g = (h.0, held_append mem (suc at) k l h.1 (subst (λ (j : ℕ). Held mem j l) (omega arith) g))

-- the elements of slots
pub slotted_kept : (mem mem' : List ℕ) (first : ℕ) (env : List ℕ) → ((i : ℕ) → first ≤ i → i < first + length env → get_or mem' i 0 ≡ get_or mem i 0) → Slotted mem first env → Slotted mem' first env
unfolding Slotted
slotted_kept mem mem' first [] f h = tt
slotted_kept mem mem' first (v ∷ env) f h =
    (f (first + length env) (omega arith) (omega arith) ∙ h.0, slotted_kept mem mem' first env (λ i a b. f i a (omega arith)) h.1)

pub slotted_none : (mem : List ℕ) (first : ℕ) → Slotted mem first []
unfolding Slotted
slotted_none mem first = tt

pub slotted_more : (mem : List ℕ) (first v : ℕ) (env : List ℕ) → get_or mem (first + length env) 0 ≡ v → Slotted mem first env → Slotted mem first (v ∷ env)
unfolding Slotted
slotted_more mem first v env e h = (e, h)

-- by the number of their operator
pub slotted_at : (mem : List ℕ) (first : ℕ) (env : List ℕ) → Slotted mem first env → (d : ℕ) → d < length env → numbered 0 env d ≡ get_or mem (first + d) 0
unfolding Slotted
slotted_at mem first [] h d l = absurd (omega arith)
slotted_at mem first (v ∷ env) h d l = go (dec_lt d (length env)) (slotted_at mem first env h.1 d)
  where
    go : Dec (d < length env) → (d < length env → numbered 0 env d ≡ get_or mem (first + d) 0) → numbered 0 (v ∷ env) d ≡ get_or mem (first + d) 0
    go (yes m) ih = numbered-before 0 v env d m ∙ ih m
    go (no m) ih = let e : d ≡ length env = omega arith in numbered-last 0 v env d e ∙ sym h.0 ∙ ap (λ (i : ℕ). get_or mem (first + i) 0) (sym e)

-- places that are safe
pub lies_more : {free free' base top at n : ℕ} → free ≤ free' → Lies free base top at n → Lies free' base top at n
lies_more h (nowhere e) = nowhere e
lies_more h (kept_set a b) = kept_set a (omega arith)
lies_more h (value a b) = value a b

-- the rest of what lies somewhere
pub lies_tail : {free base top at n : ℕ} → Lies free base top at (suc n) → Lies free base top (suc at) n
lies_tail (nowhere e) = absurd (omega arith)
lies_tail (kept_set a b) = kept_set (omega arith) (omega arith)
lies_tail (value a b) = value (omega arith) (omega arith)

module _ {z : Regions} {mem mem' : List ℕ} {d top at : ℕ} (a : Agree z mem mem' d top at) where
  pub held_safe : {base from : ℕ} (l : List ℕ) → z.floor ≤ base → Lies (free_of mem) base top from (length l) → Held mem from l → Held mem' from l
  held_safe {from = from} l h (nowhere e) = held_kept mem mem' from l (λ i p q. absurd (omega arith))
  held_safe {from = from} l h (kept_set p q) = held_kept mem mem' from l (λ i u v. a.kept i (omega arith) (omega arith))
  held_safe {from = from} l h (value p q) = held_kept mem mem' from l (λ i u v. a.values i (omega arith) (omega arith))

-- less is used
pub drop_more : (mem mem' : List ℕ) (at n : ℕ) → drop at mem' ≡ drop at mem → drop (at + n) mem' ≡ drop (at + n) mem
drop_more mem mem' at n e = sym (drop-drop n at mem') ∙ ap (drop n) e ∙ drop-drop n at mem

pub agree-under : {z : Regions} {mem mem' : List ℕ} {d top at : ℕ} (d' top' n : ℕ) → d' ≤ d → top' ≤ top → Agree z mem mem' d top at → Agree z mem mem' d' top' (at + n)
agree-under {mem = mem} {mem'} {at = at} d' top' n hd ht a = record {
  len = a.len;
  more = a.more;
  kept = a.kept;
  slots = λ i l u. a.slots i l (omega arith);
  values = λ i l u. a.values i l (omega arith);
  frames = drop_more mem mem' at n a.frames;
}

pub agree_then : {z : Regions} {mem mem1 mem2 : List ℕ} {d top at : ℕ} → Agree z mem mem1 d top at → Agree z mem1 mem2 d top at → Agree z mem mem2 d top at
agree_then a b = let m = a.more in let n = b.more in record {
  len = b.len ∙ a.len;
  more = omega arith;
  kept = λ i l u. b.kept i l (omega arith) ∙ a.kept i l u;
  slots = λ i l u. b.slots i l u ∙ a.slots i l u;
  values = λ i l u. b.values i l u ∙ a.values i l u;
  frames = b.frames ∙ a.frames;
}

pub agree_same : {z : Regions} {mem : List ℕ} {d top at : ℕ} → Agree z mem mem d top at
agree_same = record { len = refl; more = omega arith; kept = λ i l u. refl; slots = λ i l u. refl; values = λ i l u. refl; frames = refl }

-- kept sets
pub keeps_same : (mem : List ℕ) → Keeps mem mem
keeps_same mem = record { more = omega arith; kept = λ i l u. refl }

pub keeps_then : {mem mem1 mem2 : List ℕ} → Keeps mem mem1 → Keeps mem1 mem2 → Keeps mem mem2
keeps_then a b = let m = a.more in let n = b.more in record { more = omega arith; kept = λ i l u. b.kept i l (omega arith) ∙ a.kept i l u }

pub agree_keeps : {z : Regions} {mem mem' : List ℕ} {d top at : ℕ} → Agree z mem mem' d top at → Keeps mem mem'
agree_keeps a = record { more = a.more; kept = a.kept }

-- all words from `low` on up to `at` may change, where no slot in use and no value stands
pub agree-from : {z : Regions} (mem mem' : List ℕ) (low d top at : ℕ) → length mem' ≡ length mem → ((i : ℕ) → i < low → get_or mem' i 0 ≡ get_or mem i 0) → drop at mem' ≡ drop at mem
    → first_kept ≤ low → free_of mem ≤ low → d ≤ low → top ≤ low → Agree z mem mem' d top at
agree-from mem mem' low d top at len h f k r p q = record {
  len = len;
  more = let e = h free_word (omega arith) in omega arith;
  kept = λ i l u. h i (omega arith);
  slots = λ i l u. h i (omega arith);
  values = λ i l u. h i (omega arith);
  frames = f;
}

-- one word written, in a slot or among the values
pub agree-set : {z : Regions} (mem : List ℕ) (i x d top at : ℕ) → first_kept ≤ i → free_of mem ≤ i → i < at → (z.slots ≤ i → d ≤ i) → (z.floor ≤ i → top ≤ i) → Agree z mem (set mem i x) d top at
agree-set mem i x d top at l f a h k = record {
  len = length-set mem i x;
  more = let e = get_or-set_other mem i free_word x 0 (λ q. omega arith) in omega arith;
  kept = λ j p q. get_or-set_other mem i j x 0 (λ e. omega arith);
  slots = λ j p q. get_or-set_other mem i j x 0 (λ e. let u = h (omega arith) in omega arith);
  values = λ j p q. get_or-set_other mem i j x 0 (λ e. let u = k (omega arith) in omega arith);
  frames = drop-set-lt at mem i x a;
}

-- a frame written below: what lies above its words is kept
module _ {mem mem' : List ℕ} {at : ℕ} {w : Words} (f : Framed mem mem' at w) where
  pub framed_rest : drop (at + frame_words) mem' ≡ drop (at + frame_words) mem
  framed_rest = sym (drop-drop frame_words at mem') ∙ ap (drop frame_words) f.words

  pub framed_words : drop at mem' ≡ spread w (drop (at + frame_words) mem')
  framed_words = f.words ∙ ap (spread w) (sym framed_rest)

  pub framed_agree : {z : Regions} (d top : ℕ) → first_kept ≤ at → free_of mem ≤ at → d ≤ at → top ≤ at → Agree z mem mem' d top (at + frame_words)
  framed_agree d top h r p q = agree-from mem mem' at d top (at + frame_words) f.len f.below framed_rest h r p q

-- words of a frame
pub word_of : (mem : List ℕ) (at j : ℕ) {ws : List ℕ} → drop at mem ≡ ws → get_or mem (at + j) 0 ≡ get_or ws j 0
word_of mem at j e = sym (get_or-drop at mem j 0) ∙ ap (λ (l : List ℕ). get_or l j 0) e

-- the seven stores
pub framed_seven : (mem : List ℕ) (at : ℕ) (w : Words) → at + frame_words ≤ length mem
    → Framed mem (set (set (set (set (set (set (set mem at w.phase) (at + 1) w.entry) (at + 2) w.base) (at + 3) w.at) (at + 4) w.count) (at + 5) w.value) (at + 6) w.other) at w
framed_seven mem at w h =
    let vs : List ℕ = spread w [] in
    let q : sets mem at vs
    ≡ set (set (set (set (set (set (set mem at w.phase) (at + 1) w.entry) (at + 2) w.base) (at + 3) w.at) (at + 4) w.count) (at + 5) w.value) (at + 6) w.other = simp unary_clauses
    in
    subst (λ (z : List ℕ). Framed mem z at w) q (record {
      len = length-sets mem at vs;
      words = ap (drop at) (sets-eq vs mem at h ∙ append_assoc (take at mem) vs (drop (at + frame_words) mem))
          ∙ drop_at (take at mem) (vs ++ drop (at + frame_words) mem) at (length-take-le at mem (omega arith));
      below = λ i l. get_or-sets-below mem at vs i l;
    })
