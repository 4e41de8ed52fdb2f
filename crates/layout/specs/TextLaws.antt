-- The lines of the lists, entry by entry.
use Rattle.std.specs.Prelude.{ℕ, zero, suc, ◌+◌, ◌*◌, ◌-◌, ◌<◌, ◌≤◌, ◌≡◌, refl, Bool, true, false, List, [], ◌∷◌, ◌++◌, eqb, length, drop, get_or}
use Rattle.std.proofs.Math.Path.{ap}
use Rattle.std.proofs.Common.{ap₂, ◌∙◌, sym, subst, append_assoc, append-nil, length-append, drop_of_length-le, drop-cons, add-one, arith, eq-eqb, ne_eqb}
use Rattle.std.proofs.Math.Seq.{take-length}
use Rattle.language.specs.Tree.{Mealy, Moore}
use Rattle.language.specs.Numbered.{flag_of}
use Rattle.language.proofs.Laws.Basics.Tests.{pick, leave}
use Rattle.signal_names.specs.Runs.{part_length, puts_nothing, puts_after, puts_length}
use Rattle.signal_names.specs.Promise.{slot, slot_bytes, Held, part, Puts}
use Rattle.layout.specs.Layout.{nth}
use Rattle.layout.specs.Text.{model_of, head_text, line_of, lines_from, line_end, line_size, lines_size, Listed}

-- a slice put as a whole
pub put_whole : {from out out' : List ℕ} {at r : ℕ} → Puts (part from 0 (length from)) out out' at r → Puts from out out' at r
put_whole {from} p = rw (take-length from) at p

-- INFO by the model
pub mealy_is : (t : ℕ) → t ≡ 0 → head_text (model_of t) ≡ head_text Mealy
mealy_is t e = ap (λ (n : ℕ). head_text (model_of n)) e

pub moore_is : (t : ℕ) → (t ≡ 0 → ⊥) → head_text (model_of t) ≡ head_text Moore
moore_is zero e = absurd (e refl)
moore_is (suc t) e = refl

pub held_listed : {names sizes : List ℕ} {n : ℕ} (k : ℕ) → Held names sizes n → k < n → Listed names sizes k
held_listed k h l = record { sized = omega (arith, h.sized); small = h.small k l; room = omega (arith, h.room) }

module _ {names sizes : List ℕ} {k : ℕ} (h : Listed names sizes k) where
  pub name-within : get_or sizes k 0 ≤ length names - slot_bytes * k
  name-within = omega (arith, h.small, h.room)

  pub listed-length : length (slot names sizes k) ≡ get_or sizes k 0
  listed-length = part_length names (slot_bytes * k) (get_or sizes k 0) name-within

module _ (name : ℕ → List ℕ) (flag k e : ℕ) {f : ℕ} (is : f ≡ flag_of e) where
  pub line-not : (f ≡ flag → ⊥) → line_of name flag k e ≡ []
  line-not h = leave (eqb (flag_of e) flag) _ _ (ne_eqb (flag_of e) flag (λ z. h (is ∙ z)))

  pub line-is : f ≡ flag → line_of name flag k e ≡ name k ++ line_end
  line-is h = pick (eqb (flag_of e) flag) _ _ (eq-eqb (flag_of e) flag (sym is ∙ h))

  module _ {out : List ℕ} {at : ℕ} where
    pub put-no-line : (f ≡ flag → ⊥) → Puts (line_of name flag k e) out out at at
    put-no-line h = rw (line-not h) (puts_nothing out at)

    pub put-line-is : {o1 o2 : List ℕ} {m r : ℕ} → f ≡ flag → Puts (name k) out o1 at m → Puts (line_end) o1 o2 m r → Puts (line_of name flag k e) out o2 at r
    put-line-is h p q = rw (line-is h) (puts_after p q)

  pub line-length : f ≡ flag → length (line_of name flag k e) ≡ length (name k) + length line_end
  line-length h = ap length (line-is h) ∙ length-append (name k) (line_end)

module _ (flag e size : ℕ) {f : ℕ} (is : f ≡ flag_of e) where
  pub size-not : (f ≡ flag → ⊥) → line_size flag e size ≡ 0
  size-not h = leave (eqb (flag_of e) flag) _ _ (ne_eqb (flag_of e) flag (λ z. h (is ∙ z)))

  pub size_is : f ≡ flag → line_size flag e size ≡ size + length line_end
  size_is h = pick (eqb (flag_of e) flag) _ _ (eq-eqb (flag_of e) flag (sym is ∙ h))

-- the next entry's line, and the rest
module _ (name : ℕ → List ℕ) (size : ℕ → ℕ) (flag : ℕ) (list : List ℕ) (k : ℕ) where
  pub lines_step : k < length list → lines_from name flag k (drop k list) ≡ line_of name flag k (get_or list k 0) ++ lines_from name flag (k + 1) (drop (k + 1) list)
  unfolding lines_from
  lines_step h = ap (lines_from name flag k) (drop-cons list k 0 h) ∙ ap (λ (n : ℕ). line_of name flag k (get_or list k 0) ++ lines_from name flag n (drop n list)) (sym (add-one k))

  pub lines_end : length list ≤ k → lines_from name flag k (drop k list) ≡ []
  unfolding lines_from
  lines_end h = ap (lines_from name flag k) (drop_of_length-le list h)

  pub sizes_step : k < length list → lines_size size flag k (drop k list) ≡ line_size flag (get_or list k 0) (size k) + lines_size size flag (k + 1) (drop (k + 1) list)
  unfolding lines_size
  sizes_step h =
      ap (lines_size size flag k) (drop-cons list k 0 h) ∙ ap (λ (n : ℕ). line_size flag (get_or list k 0) (size k) + lines_size size flag n (drop n list)) (sym (add-one k))

  pub sizes_end : length list ≤ k → lines_size size flag k (drop k list) ≡ 0
  unfolding lines_size
  sizes_end h = ap (lines_size size flag k) (drop_of_length-le list h)

-- lines written from `start` on, and those of the entries from k on
pub record Lines (name : ℕ → List ℕ) (flag : ℕ) (list out₀ out : List ℕ) (start k at : ℕ) : Type 0 where
  pub done : List ℕ
  pub rest : done ++ lines_from name flag k (drop k list) ≡ lines_from name flag 0 list
  pub puts : Puts done out₀ out start at

pub lines_start : {name : ℕ → List ℕ} {flag : ℕ} {list out : List ℕ} {start : ℕ} → Lines name flag list out out start 0 start
lines_start {out = out} {start} = record { done = []; rest = refl; puts = puts_nothing out start }

module _ {name : ℕ → List ℕ} {flag : ℕ} {list out₀ out : List ℕ} {start k at : ℕ} (s : Lines name flag list out₀ out start k at) where
  pub lines-room : (room : ℕ) → k < length list → start + length (lines_from name flag 0 list) ≤ room → at + length (line_of name flag k (get_or list k 0)) ≤ room
  lines-room room h l =
      let next = lines_from name flag (k + 1) (drop (k + 1) list) in
      omega (
        arith,
        s.puts.next,
        ap length s.rest,
        length-append s.done (lines_from name flag k (drop k list)),
        ap length (lines_step name (λ j. j) flag list k h),
        length-append (line_of name flag k (get_or list k 0)) next,
      )

  pub lines-kept : length out ≡ length out₀
  lines-kept = puts_length s.puts

  pub lines_more : {out' : List ℕ} {r : ℕ} → k < length list → Puts (line_of name flag k (get_or list k 0)) out out' at r → Lines name flag list out₀ out' start (k + 1) r
  lines_more h p =
      record {
        done = s.done ++ line_of name flag k (get_or list k 0);
        rest = append_assoc s.done _ _ ∙ ap (λ (x : List ℕ). s.done ++ x) (sym (lines_step name (λ j. j) flag list k h)) ∙ s.rest;
        puts = puts_after s.puts p;
      }

  pub lines-done : length list ≤ k → Puts (lines_from name flag 0 list) out₀ out start at
  lines-done h =
      let all : s.done ≡ lines_from name flag 0 list = sym (append-nil s.done) ∙ ap (λ (x : List ℕ). s.done ++ x) (sym (lines_end name (λ j. j) flag list k h)) ∙ s.rest in
      rw all at s.puts

-- the lines' sizes
lines-length : (name : ℕ → List ℕ) (size : ℕ → ℕ) (flag k : ℕ) (es : List ℕ) → ((j : ℕ) → j < length es → length (name (k + j)) ≡ size (k + j))
    → length (lines_from name flag k es) ≡ lines_size size flag k es
unfolding lines_from lines_size
lines-length name size flag k [] h = refl
lines-length name size flag k (e ∷ es) h =
    length-append (line_of name flag k e) (lines_from name flag (suc k) es)
    ∙ ap₂ ◌+◌ (go (eqb (flag_of e) flag) (let z : k + 0 ≡ k = omega arith in rw z at (h 0 (omega arith))))
    (lines-length name size flag (suc k) es (λ j l. let z : k + suc j ≡ suc k + j = omega arith in rw z at (h (suc j) (omega arith))))
  where
    go : (b : Bool) → length (name k) ≡ size k → length {A = ℕ} (elim b [ true ↦ name k ++ line_end | false ↦ [] ]) ≡ elim b [ true ↦ size k + length line_end | false ↦ 0 ]
    go true z = length-append (name k) (line_end) ∙ ap (λ (n : ℕ). n + length line_end) z
    go false z = refl

pub lines-sized : (names sizes : List ℕ) (flag : ℕ) (list : List ℕ) → Held names sizes (length list) → length (lines_from (slot names sizes) flag 0 list) ≡ lines_size (nth sizes) flag 0 list
lines-sized names sizes flag list h = lines-length (slot names sizes) (nth sizes) flag 0 list
    (λ j l. let z : j ≡ 0 + j = omega arith in subst (λ (n : ℕ). length (slot names sizes n) ≡ nth sizes n) z (listed-length (held_listed j h l)))
