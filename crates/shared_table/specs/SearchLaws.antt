-- How the array is searched for a word.
use Rattle.std.specs.Prelude.{ℕ, suc, ◌/◌, ◌≤◌, ◌<◌, ◌^◌, List, ◌≢◌, ◌≡◌, get_or}
use Rattle.std.proofs.Common.{sym, ap, ◌∙◌, subst, arith}
use Rattle.shared_table.specs.Shared.{word_at, next_link, head_of, Leads, here, further, Passed, start, another, Index, Seeking}
use Rattle.shared_table.specs.DepthLaws.{link_head, link_next, few_passed}

module _ {out : List ℕ} {n : ℕ} (t : Index out n) (w : ℕ) (small : w < 2 ^ 32) where
  pub seek_start : {l bits : ℕ} → l ≡ head_of w → bits ≡ w → Seeking out n w l bits
  seek_start {bits = bits} e f =
      subst (λ l. Seeking out n w l bits) (sym e)
      (subst (Seeking out n w (head_of w)) (sym f)
      (record {
        link = link_head n w;
        passed-count = 0;
        passed = start;
        few = omega arith;
        ahead = λ v p h g. subst (λ x. Leads out x v (head_of x) x) g (t.found v p h);
      }))

  module _ {l bits at : ℕ} (s : Seeking out n w l bits) (e : at ≡ get_or out l 0) where
    pub seek-inside : at ≤ n
    seek-inside = let i = t.inside l s.link in omega arith

    -- a further link, if the node there is another word; it lies behind
    pub seek-further : at ≢ 0 → word_at out at ≢ w → Seeking out n w (next_link at bits) (bits / 2) × (l < next_link at bits)
    seek-further d other =
        subst (λ m. Seeking out n w (next_link m bits) (bits / 2) × (l < next_link m bits)) (sym e) (
          record {
            link = link_next bits (omega arith) (t.inside l s.link);
            passed-count = suc s.passed-count;
            passed = more;
            few = few_passed t small more;
            ahead = λ v p h g. next v g (s.ahead v p h g);
          },
          (let r = t.rising l s.link some in omega arith),
        )
      where
        some : get_or out l 0 ≢ 0
        some z = d (e ∙ z)

        differs : word_at out (get_or out l 0) ≢ w
        differs f = other (ap (word_at out) e ∙ f)

        more : Passed out w (suc s.passed-count) (next_link (get_or out l 0) bits) (bits / 2)
        more = another s.passed some differs

        next : (v : ℕ) → word_at out v ≡ w → Leads out w v l bits → Leads out w v (next_link (get_or out l 0) bits) (bits / 2)
        next v f (here g) = absurd (differs (ap (word_at out) g ∙ f))
        next v f (further _ _ x) = x

    -- the node there is the word: no other is
    pub seek_found : word_at out at ≡ w → (v : ℕ) → 1 ≤ v → v ≤ n → word_at out v ≡ w → v ≡ at
    seek_found f v p h g = only (s.ahead v p h g)
      where
        only : Leads out w v l bits → v ≡ at
        only (here x) = sym x ∙ sym e
        only (further _ other _) = absurd (other (ap (word_at out) (sym e) ∙ f))

    -- there is no node: none is the word
    pub seek-missing : at ≡ 0 → (v : ℕ) → 1 ≤ v → v ≤ n → word_at out v ≢ w
    seek-missing z v p h g = none (s.ahead v p h g)
      where
        none : Leads out w v l bits → ⊥
        none (here x) = omega arith
        none (further some _ _) = some (sym e ∙ z)
