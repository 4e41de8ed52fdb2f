-- A search passes at most 32 nodes that are other words, and so looks at no more than 33, whatever the words are: each link on its way is chosen by one more bit of the word,
-- and two words of 32 bits that agree in all of them are equal.
use Rattle.std.specs.Prelude.{ℕ, zero, suc, ◌/◌, ◌^◌, ◌≤◌, ◌<◌, List, ◌≢◌, ◌≡◌, refl, get_or}
use Rattle.std.proofs.Common.{sym, ap}
use Rattle.std.proofs.Math.Decide.{dec_lt, ℕ_discrete}
use native.Mathlib.Omega.{arith}
use Rattle.shared_table.specs.Shared.{heads, word_at, next_link, head_of, Link, Leads, here, further, Passed, start, another, Index}

pub head-inside : (w : ℕ) → (1 ≤ head_of w) × (head_of w ≤ heads)
unfolding head_of
head-inside w = (omega arith, omega arith)

-- a head, and a link of one of the nodes
pub link_head : (n w : ℕ) → Link n (head_of w)
link_head n w = let h = head-inside w in record { low = h.0; high = omega arith; apart = λ v p e. omega arith }

pub link_next : {n v : ℕ} (bits : ℕ) → 1 ≤ v → v ≤ n → Link n (next_link v bits)
link_next bits p h = record { low = omega arith; high = omega arith; apart = λ u q e. omega arith }

-- the bits of a word that are left after d of them, at most
left : ℕ → ℕ
left zero = 4_294_967_295
left (suc d) = left d / 2

left_none : (d : ℕ) → 32 ≤ d → left d ≡ 0
unfolding left
left_none zero h = absurd (omega arith)
left_none (suc d) h = go (left_none d) (ℕ_discrete d 31)
  where
    go : (32 ≤ d → left d ≡ 0) → Dec (d ≡ 31) → left d / 2 ≡ 0
    go i (yes e) = ap (λ m. left m / 2) e
    go i (no f) = let z = i (omega arith) in omega arith

-- where a search that comes to node v ends
record Ends (out : List ℕ) (w v : ℕ) : Type 0 where
  count : ℕ
  link : ℕ
  bits : ℕ
  passed : Passed out w count link bits
  leads : get_or out link 0 ≡ v

module _ {out : List ℕ} where
  bits_left : {w d l bits : ℕ} → w < 2 ^ 32 → Passed out w d l bits → bits ≤ left d
  unfolding left
  bits_left h start = omega arith
  bits_left h (another x _ _) = let i = bits_left h x in omega arith

  ends : {w v d l bits : ℕ} → Passed out w d l bits → Leads out w v l bits → Ends out w v
  ends {d = d} {l = l} {bits = bits} x (here e) = record { count = d; link = l; bits = bits; passed = x; leads = e }
  ends {d = d'} x (further d other y) = ends {d = suc d'} (another x d other) y

module _ {out : List ℕ} {n : ℕ} (t : Index out n) where
  -- a search comes to heads and links alone
  pub passed_link : {w d l bits : ℕ} → Passed out w d l bits → Link n l
  passed_link {w = w} start = link_head n w
  passed_link (another {l = l} {bits = bits} x some _) = let i = t.inside l (passed_link x) in link_next bits (omega arith) i

  -- two searches that come to one link have passed as many nodes; if the same bits are left, they seek one word
  alike : {w d l bits u e m rest : ℕ} → Passed out w d l bits → Passed out u e m rest → l ≡ m → (d ≡ e) × (bits ≡ rest → w ≡ u)
  alike start start h = (refl, λ f. f)
  alike {w = w} start (another y some _) h = let i = head-inside w in absurd (omega arith)
  alike {u = u} (another x some _) start h = let i = head-inside u in absurd (omega arith)
  alike (another {l = l} {bits = bits} x some _) (another {l = m} {bits = rest} y _ _) h =
      let same : get_or out l 0 ≡ get_or out m 0 = omega arith in
      let i = alike x y (t.once l m (passed_link x) (passed_link y) some same) in
      (ap suc i.0, λ f. i.1 (omega arith))

  few_before : {w d l bits : ℕ} → w < 2 ^ 32 → Passed out w d l bits → get_or out l 0 ≢ 0 → word_at out (get_or out l 0) ≢ w → d < 32
  few_before {w = w} {d = d} {l = l} h x some other = go (dec_lt d 32)
    where
      go : Dec (d < 32) → d < 32
      go (yes e) = e
      go (no f) =
          let k = passed_link x in
          let i = t.inside l k in
          let y = ends start (t.found (get_or out l 0) (omega arith) i) in
          let a = alike x y.passed (t.once l y.link k (passed_link y.passed) some (sym y.leads)) in
          let u = left_none d (omega arith) in
          let v = left_none y.count (omega (arith, a.0)) in
          let b = bits_left h x in
          let c = bits_left (t.small (get_or out l 0) (omega arith) i) y.passed in
          absurd (other (sym (a.1 (omega arith))))

  pub few_passed : {w d l bits : ℕ} → w < 2 ^ 32 → Passed out w d l bits → d ≤ 32
  few_passed h start = omega arith
  few_passed h (another x some other) = let i = few_before h x some other in omega arith
