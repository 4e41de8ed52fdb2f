-- What is kept and what is written of the rows in a buffer.
use Rattle.std.specs.Prelude.{ℕ, ◌+◌, ◌*◌, ◌-◌, ◌/◌, ◌%◌, ◌≤◌, ◌<◌, ◌≡◌, refl, ◌⊎◌, List, length, get_or, set}
use Rattle.std.proofs.Common.{sym, ap, ap₂, ◌∙◌, subst, inl, inr, arith, length-set, get_or-set_same, get_or-set_other}
use Rattle.std.proofs.Math.Decide.{dec_lt, ℕ_discrete}
use Rattle.bits.specs.Bits.{Values, bit_of, bit_at, width}
use Rattle.bits.specs.BitLaws.{same_byte, zero-byte}
use Rattle.rows.specs.Row.{shown}
use Rattle.rows.specs.Shapes.{Agree}
use Rattle.rows.specs.RowLaws.{shown_in, shown_out}
use Rattle.rows.specs.Memory.{bits_at, Kept, Part, Filled, Written, Copied}

pub kept_refl : (base count : ℕ) (bs : List ℕ) → Kept base count bs bs
kept_refl base count bs = record { size = refl; below = λ k h. refl; beyond = λ k h. refl }

pub kept_trans : {base count : ℕ} {xs ys zs : List ℕ} → Kept base count xs ys → Kept base count ys zs → Kept base count xs zs
kept_trans h g = record { size = g.size ∙ h.size; below = λ k l. g.below k l ∙ h.below k l; beyond = λ k l. g.beyond k l ∙ h.beyond k l }

-- a row before the one that changed
pub kept_row : (n base r : ℕ) {old new : List ℕ} → Kept base (width n) old new → r + width n ≤ base → (p : ℕ) → p < 8 * width n → bits_at new r p ≡ bits_at old r p
kept_row n base r {old} {new} h l p m = same_byte new old (8 * r + p) (h.below ((8 * r + p) / 8) (omega arith))

pub kept-agree : (n base r : ℕ) {old new : List ℕ} → Kept base (width n) old new → r + width n ≤ base → Agree n (bits_at new r) (bits_at old r)
kept-agree n base r h l p m = kept_row n base r h l p (omega arith)

pub part_none : (n base : ℕ) (f : Values) (at : ℕ) (bs : List ℕ) → Part n base f at at bs bs
part_none n base f at bs = record { kept = kept_refl base (width n) bs; here = λ p h l. absurd (omega arith); other = λ p h. refl }

pub part_to : {n base from to end : ℕ} {f : Values} {old new : List ℕ} → to ≡ end → Part n base f from to old new → Part n base f from end old new
part_to {n} {base} {from} {to} {end} {f} {old} {new} e h = subst (λ x. Part n base f from x old new) e h

pub part_from_lem : {n base from to start : ℕ} {f : Values} {old new : List ℕ} → from ≡ start → Part n base f from to old new → Part n base f start to old new
part_from_lem {n} {base} {from} {to} {start} {f} {old} {new} e h = subst (λ x. Part n base f x to old new) e h

-- a row of equal values
pub part_as : {n base from to : ℕ} {f g : Values} {old new : List ℕ} → Part n base f from to old new → ((p : ℕ) → from ≤ p → p < to → f p ≡ g p) → Part n base g from to old new
part_as h e = record { kept = h.kept; here = λ p a b. h.here p a b ∙ e p a b; other = h.other }

-- fewer bytes changed
pub kept-wider : {base m n : ℕ} {old new : List ℕ} → Kept base (width m) old new → m ≤ n → Kept base (width n) old new
kept-wider h l = record { size = h.size; below = h.below; beyond = λ k a. h.beyond k (omega arith) }

-- the positions from m on, then those before
pub part-before : (n k m from to base : ℕ) (f g : Values) {old mid new : List ℕ} → from ≤ m → m ≤ to → k ≤ n → Part n base f m to old mid → Part k base g from m mid new
    → ((p : ℕ) → from ≤ p → p < m → g p ≡ f p) → Part n base f from to old new
part-before n k m from to base f g {old} {mid} {new} a b l h w e =
    record { kept = kept_trans h.kept (kept-wider w.kept l); here = λ p i j. go p i j (dec_lt p m); other = λ p i. rest p i }
  where
    go : (p : ℕ) → from ≤ p → p < to → Dec (p < m) → bits_at new base p ≡ f p
    go p i j (yes d) = w.here p i d ∙ e p i d
    go p i j (no d) = let c : m ≤ p = omega arith in w.other p (inr c) ∙ h.here p c j

    rest : (p : ℕ) → (p < from) ⊎ (to ≤ p) → bits_at new base p ≡ bits_at old base p
    rest p (inl i) = w.other p (inl i) ∙ h.other p (inl (omega arith))
    rest p (inr i) = w.other p (inr (omega arith)) ∙ h.other p (inr i)

-- the last byte cleared
pub last-kept : (n base : ℕ) (bs : List ℕ) → 0 < n → Kept base (width n) bs (set bs (base + width n - 1) 0)
last-kept n base bs pos =
    record {
      size = length-set bs (base + width n - 1) 0;
      below = λ k a. get_or-set_other bs (base + width n - 1) k 0 0 (omega arith);
      beyond = λ k a. get_or-set_other bs (base + width n - 1) k 0 0 (omega arith);
    }

-- and then all positions filled
pub written : (n base : ℕ) (f : Values) {old new : List ℕ} → 0 < n → base + width n ≤ length old → Filled n base f (set old (base + width n - 1) 0) new → Written n base f old new
written n base f {old} {new} pos room h = record { kept = kept_trans (last-kept n base old pos) h.kept; right = λ p l. go p l (dec_lt p n) }
  where
    last : ℕ
    last = base + width n - 1

    go : (p : ℕ) → p < 8 * width n → Dec (p < n) → bits_at new base p ≡ shown n f p
    go p l (yes d) = h.here p (omega arith) d ∙ sym (shown_in n f p d)
    go p l (no d) =
        let i : (8 * base + p) / 8 ≡ last = omega arith in
        h.other p (inr (omega arith)) ∙ zero-byte (set old last 0) (8 * base + p) (ap (λ x. get_or (set old last 0) x 0) i ∙ get_or-set_same old last 0 0 (omega arith))
        ∙ sym (shown_out n f p (omega arith))

-- a row of equal values
pub written_as : (n base : ℕ) (f g : Values) {old new : List ℕ} → Written n base f old new → Agree n f g → Written n base g old new
written_as n base f g h e = record { kept = h.kept; right = λ p l. h.right p l ∙ same p (dec_lt p n) }
  where
    same : (p : ℕ) → Dec (p < n) → shown n f p ≡ shown n g p
    same p (yes d) = shown_in n f p d ∙ e p d ∙ sym (shown_in n g p d)
    same p (no d) = shown_out n f p (omega arith) ∙ sym (shown_out n g p (omega arith))

-- bytes copied one by one
pub copied_none : (from base count : ℕ) (bs : List ℕ) → Copied from base count 0 bs bs
copied_none from base count bs = record { kept = kept_refl base count bs; same = λ k h. absurd (omega arith) }

pub copied_more : (from base count done : ℕ) {old new : List ℕ} → Copied from base count done old new → from + count ≤ base → done < count → base + count ≤ length new
    → Copied from base count (done + 1) old (set new (base + done) (get_or new (from + done) 0))
copied_more from base count done {old} {new} h f l room =
    record {
      kept =
          record {
            size = length-set new (base + done) v ∙ h.kept.size;
            below = λ k m. get_or-set_other new (base + done) k v 0 (omega arith) ∙ h.kept.below k m;
            beyond = λ k m. get_or-set_other new (base + done) k v 0 (omega arith) ∙ h.kept.beyond k m;
          };
      same = λ k m. go k m (ℕ_discrete k done);
    }
  where
    v : ℕ
    v = get_or new (from + done) 0

    go : (k : ℕ) → k < done + 1 → Dec (k ≡ done) → get_or (set new (base + done) v) (base + k) 0 ≡ get_or old (from + k) 0
    go k m (yes d) =
        ap (λ q. get_or (set new (base + done) v) (base + q) 0) d ∙ get_or-set_same new (base + done) v 0 (omega arith) ∙ h.kept.below (from + done) (omega arith)
        ∙ ap (λ q. get_or old (from + q) 0) (sym d)
    go k m (no d) = get_or-set_other new (base + done) (base + k) v 0 (omega arith) ∙ h.same k (omega arith)

-- the same row bit by bit
pub copied_bit : (from base count : ℕ) {old new : List ℕ} → Copied from base count count old new → (p : ℕ) → p < 8 * count → bits_at new base p ≡ bits_at old from p
unfolding bit_at
copied_bit from base count {old} {new} h p l =
    let a : (8 * base + p) / 8 ≡ base + p / 8 = omega arith in
    let b : (8 * from + p) / 8 ≡ from + p / 8 = omega arith in
    let m : 7 - (8 * base + p) % 8 ≡ 7 - (8 * from + p) % 8 = omega arith in
    ap₂ (λ x y. bit_of (get_or new x 0) y) a m ∙ ap (λ x. bit_of x (7 - (8 * from + p) % 8)) (h.same (p / 8) (omega arith)) ∙ ap (λ x. bit_of (get_or old x 0) (7 - (8 * from + p) % 8)) (sym b)
