-- Signals, bus bits and comparisons hold in the numbered word where they do in the word over the declared signals.
use Rattle.std.specs.Prelude.{ℕ, ◌≤◌, Bool, List, ltb, length}
use Rattle.std.proofs.Math.Path.{refl}
use Rattle.std.proofs.Math.Bool.{true, false, So}
use Rattle.std.proofs.Math.Logic.Iff as Equiv
use Rattle.std.proofs.Common.{arith}
use Rattle.node.specs.Temporal.{Property}
use Rattle.node.proofs.TemporalLaws.{Same}
use Rattle.node.specs.Ltl.{Formula, Holds, Word as NodeWord}
use Rattle.node.specs.Result.{Result, Done, Refused, ◌>>=◌, guard}
use Rattle.language.specs.Tokens.{Token}
use Rattle.language.specs.Operators.{Comparison, Equal, Unequal, Less, AtMost, Greater, AtLeast}
use Rattle.language.specs.Values.{Value, Number, Set, Logic, Bus, Unsized, Choice, number, Sized, bus, choice}
use Rattle.language.specs.DeclaredNames.{Port}
use Rattle.language.specs.Expansion.{truth, signal_node, one_of, width_is, against, test, compared, bit_at}
use Rattle.language.specs.Meaning.{SignalOf, BitOf, Word, Holding, MatchesOne, Relates, Equals, or_else, the_number, the_words, the_bus, SidesMean}
use Rattle.language.proofs.Laws.Basics.Lists.{All, all_more}
use Rattle.language.proofs.Laws.Basics.Tests.{so_ltb}
use Rattle.language.proofs.Laws.Basics.Results.{Within}
use Rattle.language.proofs.Laws.Values.BusValues.{OfBus}
use Rattle.language.proofs.Laws.Values.SignalBounds.{width_is_lem}
use Rattle.language.proofs.Laws.Meaning.ExpansionLaws.{relates_holds}
use Rattle.language.proofs.Laws.Meaning.BusPatterns.{SingleAgrees, BusAgrees, so_same, one_of_holds}
use Rattle.language.proofs.Laws.Meaning.Agreement.{Agrees}

module _ (ps : List Port) (w : Word) (v : NodeWord) where
  pub implied-agrees : (x : List ℕ) (n : ℕ) → BusAgrees ps w v x n → (vs : List Token) → All (λ u. length u.text ≤ n) vs → Agrees (Done (one_of ps x vs)) v (MatchesOne x vs w)
  unfolding Agrees
  implied-agrees x n h vs l = one_of_holds ps w v x n h vs l

  pub signal-agrees : (x : List ℕ) → SingleAgrees ps w v x → Agrees (Done (signal_node ps x 0)) v (Holding (SignalOf x) w)
  unfolding Agrees Holds
  signal-agrees x h t = so_same (h t)

  -- a formula under a test
  guard-agrees : (b : Bool) (n p : ℕ) (f : Formula) (P : Property) → (So b → Same P (Holds f v)) → Agrees (guard b n p (Done f)) v P
  unfolding Agrees guard
  guard-agrees true n p f P h = h refl
  guard-agrees false n p f P h = tt

  bit-agrees : (i : ℕ) (b : Sized) → BusAgrees ps w v b.name b.width → Agrees (bit_at ps i b) v (Holding (BitOf b.name i) w)
  unfolding Holds
  bit-agrees i b h = guard-agrees (ltb i b.width) 13 b.place _ _ (λ l t. so_same (h t i ((so_ltb i b.width).0 l)))

  pub index_agrees : (r : Result ℕ) (q : Result Value) → Within (OfBus (BusAgrees ps w v)) q → Agrees (r >>= λ i. q >>= bus >>= bit_at ps i) v (Holding (BitOf (the_bus q) (or_else 0 r)) w)
  unfolding Agrees ◌>>=◌
  index_agrees (Done i) (Done (Number n)) h = tt
  index_agrees (Done i) (Done (Set s)) h = tt
  index_agrees (Done i) (Done Logic) h = tt
  index_agrees (Done i) (Done (Bus p x n)) h = bit-agrees i (record { place = p; name = x; width = n }) h.says
  index_agrees (Done i) (Done (Unsized p)) h = tt
  index_agrees (Done i) (Done (Choice vs)) h = tt
  index_agrees (Done i) (Refused k p) h = tt
  index_agrees (Refused k p) q h = tt

  -- words as wide as the bus
  no_wider : (n : ℕ) (vs : List Token) → So (width_is n vs) → All (λ u. length u.text ≤ n) vs
  no_wider n vs e = all_more (λ u l. omega arith) vs (width_is_lem n vs e)

  against-agrees : (o : Comparison) (b : Sized) (vs : List Token) → BusAgrees ps w v b.name b.width → Agrees (against ps o b vs) v (λ t. Equals o (MatchesOne b.name vs w t))
  unfolding Agrees Holds
  against-agrees Equal b vs h =
      guard-agrees (width_is b.width vs) 13 b.place _ _ (λ l. one_of_holds ps w v b.name b.width h vs (no_wider b.width vs l))
  against-agrees Unequal b vs h =
      guard-agrees (width_is b.width vs) 13 b.place _ _ (λ l t. Equiv.not (one_of_holds ps w v b.name b.width h vs (no_wider b.width vs l) t))
  against-agrees Less b vs h = tt
  against-agrees AtMost b vs h = tt
  against-agrees Greater b vs h = tt
  against-agrees AtLeast b vs h = tt

  numbers-agree : (o : Comparison) (m : ℕ) (y : Value) → Agrees (number y >>= λ n. Done (truth (test o m n))) v (λ t. Relates o m (the_number (Done y)))
  unfolding Agrees ◌>>=◌
  numbers-agree o m (Number n) = relates_holds o m n v
  numbers-agree o m (Set s) = tt
  numbers-agree o m Logic = tt
  numbers-agree o m (Bus p x n) = tt
  numbers-agree o m (Unsized p) = tt
  numbers-agree o m (Choice vs) = tt

  words-agree : (o : Comparison) (b : Sized) → BusAgrees ps w v b.name b.width → (y : Value)
      → Agrees (choice y >>= against ps o b) v (λ t. Equals o (MatchesOne b.name (the_words (Done y)) w t))
  unfolding Agrees ◌>>=◌
  words-agree o b h (Number n) = tt
  words-agree o b h (Set s) = tt
  words-agree o b h Logic = tt
  words-agree o b h (Bus p x n) = tt
  words-agree o b h (Unsized p) = tt
  words-agree o b h (Choice vs) = against-agrees o b vs h

  bus-agrees : (o : Comparison) (vs : List Token) (y : Value) → OfBus (BusAgrees ps w v) y → Agrees (bus y >>= λ b. against ps o b vs) v (λ t. Equals o (MatchesOne (the_bus (Done y)) vs w t))
  unfolding Agrees ◌>>=◌
  bus-agrees o vs (Number n) h = tt
  bus-agrees o vs (Set s) h = tt
  bus-agrees o vs Logic h = tt
  bus-agrees o vs (Bus p x n) h = against-agrees o (record { place = p; name = x; width = n }) vs h
  bus-agrees o vs (Unsized p) h = tt
  bus-agrees o vs (Choice us) h = tt

  sides_agree : (o : Comparison) (x y : Value) → OfBus (BusAgrees ps w v) x → OfBus (BusAgrees ps w v) y → Agrees (compared ps o x y) v (SidesMean o x (Done y) w)
  unfolding Agrees
  sides_agree o (Number m) y h k = numbers-agree o m y
  sides_agree o (Set s) y h k = tt
  sides_agree o Logic y h k = tt
  sides_agree o (Bus p x n) y h k = words-agree o (record { place = p; name = x; width = n }) h y
  sides_agree o (Unsized p) y h k = tt
  sides_agree o (Choice vs) y h k = bus-agrees o vs y k

  pub compare_agrees : (o : Comparison) (q r : Result Value) → Within (OfBus (BusAgrees ps w v)) q → Within (OfBus (BusAgrees ps w v)) r →
      Agrees (q >>= λ x. r >>= compared ps o x) v (SidesMean o (or_else Logic q) r w)
  unfolding Agrees ◌>>=◌
  compare_agrees o (Done x) (Done y) h k = sides_agree o x y h.says k.says
  compare_agrees o (Done x) (Refused n p) h k = tt
  compare_agrees o (Refused n p) r h k = tt
