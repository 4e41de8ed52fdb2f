-- A search in a tree of spellings passes at most eight nodes: each link on its way is chosen by one more bit of the byte, and two bytes that agree in eight bits are equal.
use Rattle.std.specs.Prelude.{ℕ, zero, suc, ◌/◌, ◌≤◌, ◌<◌, List, Bool, true, false, ◌≢◌, ◌⊎◌, ◌≡◌, refl, ltb, get_or}
use Rattle.std.proofs.Common.{inl, inr, sym, ap, ltb-true, ltb-false}
use native.Mathlib.Omega.{arith}
use Rattle.spellings.specs.Trie.{Leads, here, further, Passed, start, another, Trie}
use Rattle.spellings.specs.Spellings.{equal_or_not, positive}

-- the bits of a byte that are left after d of them, at most
left : ℕ → ℕ
left zero = 255
left (suc d) = left d / 2

left_none : (d : ℕ) → 8 ≤ d → left d ≡ 0
unfolding left
left_none zero h = absurd (omega arith)
left_none (suc d) h = go (left_none d) (equal_or_not d 7)
  where
    go : (8 ≤ d → left d ≡ 0) → (d ≡ 7) ⊎ (d ≢ 7) → left d / 2 ≡ 0
    go i (inl e) = ap (λ m. left m / 2) e
    go i (inr f) = let z = i (omega arith) in omega arith

-- where a search that comes to node k ends
record Ends (links byte : List ℕ) (p b k : ℕ) : Type 0 where
  count : ℕ
  link : ℕ
  bits : ℕ
  passed : Passed links byte p b count link bits
  leads : get_or links link 0 ≡ k

module _ {links byte : List ℕ} where
  bits_left : {p b d l bits : ℕ} → b < 256 → Passed links byte p b d l bits → bits ≤ left d
  unfolding left
  bits_left h start = omega arith
  bits_left h (another x _ _) = let i = bits_left h x in omega arith

  ends : {p b k d l bits : ℕ} → Passed links byte p b d l bits → Leads links byte b k l bits → Ends links byte p b k
  ends {d = d} {l = l} {bits = bits} x (here e) = record { count = d; link = l; bits = bits; passed = x; leads = e }
  ends {d = d'} x (further d other y) = ends {d = suc d'} (another x d other) y

module _ {links byte : List ℕ} {n : ℕ} (t : Trie links byte n) where
  -- two searches that come to one link have passed as many nodes; if the same bits are left, they seek one byte
  alike : {p b d l bits q c e m rest : ℕ} → Passed links byte p b d l bits → Passed links byte q c e m rest → l ≡ m → (d ≡ e) × (bits ≡ rest → b ≡ c)
  alike start start h = (refl, λ f. f)
  alike start (another y _ _) h = absurd (omega arith)
  alike (another x _ _) start h = absurd (omega arith)
  alike (another {l = l} {bits = bits} x d _) (another {l = m} {bits = rest} y _ _) h =
      let same : get_or links l 0 ≡ get_or links m 0 = omega arith in
      let i = alike x y (t.once l m d same) in
      (ap suc i.0, λ f. i.1 (omega arith))

  few_before : {p b d l bits : ℕ} → b < 256 → Passed links byte p b d l bits → get_or links l 0 ≢ 0 → get_or byte (get_or links l 0) 0 ≢ b → d < 8
  few_before {b = b} {d = d} {l = l} h x some other = go (ltb d 8) refl
    where
      go : (c : Bool) → ltb d 8 ≡ c → d < 8
      go true e = ltb-true d 8 e
      go false e =
          let y = ends start (t.found (get_or links l 0) (positive (get_or links l 0) some) (t.inside l)) in
          let i = alike x y.passed (t.once l y.link some (sym y.leads)) in
          let u = left_none d (ltb-false d 8 e) in
          let v = left_none y.count (let g = ltb-false d 8 e in omega (arith, i.0)) in
          let a = bits_left h x in
          let c = bits_left (t.small (get_or links l 0) (t.inside l)) y.passed in
          absurd (other (sym (i.1 (omega arith))))

  pub few_passed : {p b d l bits : ℕ} → b < 256 → Passed links byte p b d l bits → d ≤ 8
  few_passed h start = omega arith
  few_passed h (another x some other) = let i = few_before h x some other in omega arith
