-- What is put into an array, by where the search for the word ended: of one table that the array holds, and whichever it holds.
use Rattle.std.specs.Prelude.{ℕ, zero, suc, ◌+◌, ◌/◌, ◌^◌, ◌≤◌, ◌<◌, List, [], ◌∷◌, ◌++◌, ◌≢◌, ◌≡◌, refl, length, get_or}
use Rattle.std.proofs.Common.{sym, ap, ◌∙◌, subst, arith, length-append}
use Rattle.std.proofs.Math.Decide.{dec_lt, ℕ_discrete}
use Rattle.std.proofs.Math.ListN.{get_or-append}
use Rattle.std.proofs.Math.Seq.{get_or-append_seam}
use Rattle.node.specs.Limits.{max_nodes}
use Rattle.sharing.specs.Sharing.{position, having}
use Rattle.shared_table.specs.Shared.{slot, word_at, next_link, heads, head_of, capacity, Index, Shares, Shared, Put, Full, Puts, Seeking, Sought}
use Rattle.sharing.proofs.PlaceLaws.{having_stood, having_new}
use Rattle.shared_table.specs.PositionLaws.{position_first, position_none}
use Rattle.shared_table.specs.DepthLaws.{head-inside}
use Rattle.shared_table.specs.SearchLaws.{seek_start, seek-inside, seek-further, seek_found, seek-missing}
use Rattle.shared_table.specs.RoomLaws.{room-more, room_none, room_short}
use Rattle.shared_table.specs.GrowthLaws.{grown, grown-length, grown-count, grown-words, grown-last, grown-index}
use Rattle.shared_table.specs.SharedLaws.{shares_few, shares_inside}

module _ {out t : List ℕ} (s : Shares out t) {w l bits : ℕ} (q : Seeking out (length t) w l bits) (small : w < 2 ^ 32) where
  -- the node there is the word
  put-found : (at : ℕ) → at ≡ get_or out l 0 → at ≢ 0 → word_at out at ≡ w → Put out t w at
  put-found zero e d f = absurd (d refl)
  put-found (suc k) e d f =
      let i = seek-inside s.index w small q e in
      let only = seek_found s.index w small q e f in
      let same : word_at out (k + 1) ≡ w = ap (word_at out) (omega arith) ∙ f in
      let first : position t w ≡ k = position_first t w k (omega arith) (sym (s.words k (omega arith)) ∙ same) (earlier k only i) in
      record { shares = subst (Shares out) (sym (having_stood t w (omega arith))) s; number = ap suc (sym first) }
    where
      earlier : (k : ℕ) → ((v : ℕ) → 1 ≤ v → v ≤ length t → word_at out v ≡ w → v ≡ suc k) → suc k ≤ length t → (j : ℕ) → j < k → get_or t j 0 ≢ w
      earlier k only i j h g = let o = only (j + 1) (omega arith) (omega arith) (s.words j (omega arith) ∙ g) in omega arith

  -- there is no node
  module _ (empty : get_or out l 0 ≡ 0) where
    put-absent : position t w ≡ length t
    put-absent = position_none t w (λ k h g. seek-missing s.index w small q refl empty (k + 1) (omega arith) (omega arith) (s.words k h ∙ g))

    put_full : length t ≡ capacity (length out) → Full out out t w
    put_full f = record { absent = put-absent; full = f; kept = refl }

    module _ (few : length t < max_nodes) (fits : slot (length t + 2) ≤ length out) where
      abbrev out' : List ℕ
      out' = grown out (length t) l w

      abbrev t' : List ℕ
      t' = t ++ (w ∷ [])

      longer : length t' ≡ length t + 1
      longer = length-append t (w ∷ [])

      word-new : (k : ℕ) → k < length t + 1 → word_at out' (k + 1) ≡ get_or t' k 0
      word-new k h = go (ℕ_discrete k (length t))
        where
          go : Dec (k ≡ length t) → word_at out' (k + 1) ≡ get_or t' k 0
          go (yes e) = subst (λ m. word_at out' (m + 1) ≡ get_or t' m 0) (sym e) (grown-last out (length t) l w q.link fits ∙ sym (get_or-append_seam t w [] 0))
          go (no d) =
              grown-words out (length t) l w q.link fits (k + 1) (omega arith) (omega arith) ∙ s.words k (omega arith) ∙ sym (get_or-append t (w ∷ []) 0 k (omega arith))

      put-new : Put out' t w (length t + 1)
      put-new =
          let same = grown-length out (length t) l w q.link fits in
          let more = room-more s.long few fits in
          let e = longer in
          let long = s.long in
          record {
            shares =
                subst (Shares out') (sym (having_new t w (let a = put-absent in omega arith)))
                (record {
                  long = omega arith;
                  room = subst (λ m. length t' ≤ capacity m) (sym same) (omega arith);
                  count = grown-count out (length t) l w q.link fits ∙ sym e;
                  words = λ k h. word-new k (omega arith);
                  index = subst (Index out') (sym e) (grown-index s.index q empty fits small);
                });
            number = (let a = put-absent in omega arith);
          }

-- the head of a word is there
pub head_few : {l : ℕ} (w : ℕ) → l ≡ head_of w → l ≤ heads
head_few w e = let h = head-inside w in omega arith

pub head-below : {out : List ℕ} {l : ℕ} (w : ℕ) → Shared out → l ≡ head_of w → l < length out
head-below w s e = let h = head-inside w in let m = s.shares.long in omega arith

-- A search for the word is at link l, with these bits left, whichever table the array holds, and the link leads to node `at`, or to none.
pub record Looking (out : List ℕ) (w l bits at : ℕ) : Type 0 where
  pub shared : Shared out
  pub small : w < 2 ^ 32
  pub leads : at ≡ get_or out l 0
  pub seeking : (t : List ℕ) → Shares out t → Seeking out (length t) w l bits

pub look_start : {out : List ℕ} {w l bits at : ℕ} → Shared out → w < 2 ^ 32 → l ≡ head_of w → bits ≡ w → at ≡ get_or out l 0 → Looking out w l bits at
look_start {w = w} h small e f g = record { shared = h; small = small; leads = g; seeking = λ t s. seek_start s.index w small e f }

module _ {out : List ℕ} {w l bits at : ℕ} (q : Looking out w l bits at) where
  mine : Seeking out (length q.shared.table) w l bits
  mine = q.seeking q.shared.table q.shared.shares

  pub look_few : at ≤ max_nodes
  look_few = let s = q.shared.shares in let i = seek-inside s.index w q.small mine q.leads in let f = shares_few s in omega arith

  pub look_inside : slot at + 3 ≤ length out
  look_inside = let s = q.shared.shares in let i = seek-inside s.index w q.small mine q.leads in let f = shares_inside s in omega arith

  -- the node is another word: the search goes on by its link, which lies behind
  module _ (some : at ≢ 0) (other : word_at out at ≢ w) where
    pub look-behind : l < next_link at bits
    look-behind = (seek-further q.shared.shares.index w q.small mine q.leads some other).1

    pub look-further : {next : ℕ} → next ≡ get_or out (next_link at bits) 0 → Looking out w (next_link at bits) (bits / 2) next
    look-further e =
        record { shared = q.shared; small = q.small; leads = e; seeking = λ t s. (seek-further s.index w q.small (q.seeking t s) q.leads some other).0 }

  -- it is the word
  pub puts_found : at ≢ 0 → word_at out at ≡ w → Puts out out w at
  puts_found some f =
      let few = look_few in
      record { most = omega arith; done = λ _ t s. put-found s (q.seeking t s) q.small at q.leads some f; refused = λ g. absurd (omega arith) }

  -- there is none
  pub look_end : at ≡ 0 → Sought out w l
  look_end z = record { shared = q.shared; small = q.small; empty = sym q.leads ∙ z; seeking = λ t s. (bits, q.seeking t s) }

module _ {out : List ℕ} {w l : ℕ} (q : Sought out w l) where
  pub sought_inside : l < length out
  sought_inside = let s = q.shared.shares in let h = (q.seeking q.shared.table s).1.link.high in let i = shares_inside s in omega arith

  full : ((t : List ℕ) → Shares out t → length t ≡ capacity (length out)) → Puts out out w (suc max_nodes)
  full f = record { most = omega arith; done = λ g. absurd (omega arith); refused = λ _ t s. put_full s (q.seeking t s).1 q.small q.empty (f t s) }

  module _ {n : ℕ} (e : n ≡ get_or out 0 0) where
    pub puts-many : max_nodes < n + 1 → Puts out out w (suc max_nodes)
    puts-many m = full (λ t s. room_none s.long s.room (let c = s.count in omega arith))

    pub puts-short : length out < slot (n + 1) + 3 → Puts out out w (suc max_nodes)
    puts-short m = full (λ t s. room_short s.long s.room (let c = s.count in omega arith))

    pub puts-new : n + 1 ≤ max_nodes → slot (n + 1) + 3 ≤ length out → Puts out (grown out n l w) w (n + 1)
    puts-new m f =
        record {
          most = omega arith;
          done =
              λ _ t s.
              let c = s.count in
              subst (λ k. Put (grown out k l w) t w (k + 1)) (sym c ∙ sym e) (put-new s (q.seeking t s).1 q.small q.empty (omega arith) (omega arith));
          refused = λ g. absurd (omega arith);
        }

-- an array into which a word was put holds a table
pub puts_shared : {out out' : List ℕ} {w r : ℕ} → Shared out → Puts out out' w r → Shared out'
puts_shared {out} {out'} {w} {r} h p = go (dec_lt max_nodes r)
  where
    go : Dec (max_nodes < r) → Shared out'
    go (yes m) = subst Shared (sym (p.refused m h.table h.shares).kept) h
    go (no f) = record { table = having h.table w; shares = (p.done (omega arith) h.table h.shares).shares }
