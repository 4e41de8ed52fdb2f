-- The states after an operand has begun with no operator, one law for each way; what the code tests is a token's number.
use Rattle.std.specs.Prelude.{ℕ, suc, ◌+◌, ◌<◌, ◌^◌, List, true, false, ◌≡◌, refl, eqb, drop}
use Prim.Native.String.{String}
use Rattle.std.proofs.Common.{arith, sym, ap, ◌∙◌, lit<, eq-eqb, ne_eqb, eqb-true}
use Rattle.std.proofs.Math.Option.{none}
use Rattle.node.specs.Result.{◌>>=◌}
use Rattle.language.specs.Operators.{loosest}
use Rattle.language.specs.Tree.{Expr, Named, Numeral, Truth, Listed, Empty}
use Rattle.language.specs.Grammar.{Tokens, Read, rest, next}
use Rattle.language.proofs.Laws.Basics.Tests.{or_cases}
use Rattle.language.specs.Bytes.{ascii, is_one_of}
use Rattle.lexer.specs.Numbers.{spellings, number, fixed, class_number as tokenNumber}
use Rattle.language.specs.Tokens.{Name, Numeral as Digits}
use Rattle.entries.specs.Kinds as Kind
use Rattle.entries.specs.Flat.{leaf, flat}
use Rattle.entries.specs.Stored.{put_entry}
use Rattle.entries.specs.declared.Cursor.{Cursor}
use Rattle.entries.specs.Cursors.{Ready, number_at, refused_at, next_of, emitted_of}
use Rattle.entries.specs.CursorLaws.{ready-number, ready-next, before-end, drop-next}
use Rattle.entries.specs.TokenReads.{next_number_lem}
use Rattle.operators.specs.Fields.{level_bits}
use Rattle.expressions.specs.declared.stack.Machine.{Machine}
use Rattle.expressions.specs.declared.stack.Turn.TheVariants.{Next, Ended}
use Rattle.operators.specs.Readers.{reads, climbs, prefix_row}
use Rattle.expressions.specs.Classes.{Class, Round, Bars, Square, One, class_number}
use Rattle.expressions.specs.Frames.{frame, resume}
use Rattle.operators.specs.Tables.{prefix_at}
use Rattle.operators.specs.RowLaws.{prefix_none}
use Rattle.expressions.specs.StartLaws.{starter, starts-numeral, starts_true, starts_false, starts_round, starts_bars, starts-name, starts-index, starts-empty, starts-set, starts-not}
use Rattle.expressions.specs.Stack.{put_slot}
use Rattle.expressions.specs.StackLaws.{stacked_less, stacked_next}
use Rattle.expressions.specs.Machines.{pushed_of, climbing_of}
use Rattle.expressions.specs.States.{credits, Simple, Marked, State, Turned}
use Rattle.expressions.specs.StateLaws.{here, refuses, enters, completes_at}
use Rattle.expressions.specs.Starts.{leaf_of, leaf_written}

-- the grammar's lists and the cursor's
pub drop-two : (n : ℕ) (ts : Tokens) → drop (n + 1 + 1) ts ≡ rest (rest (drop n ts))
drop-two n ts = drop-next (n + 1) ts ∙ ap rest (drop-next n ts)

-- a number that is none of those that begin an operand
pub starters : (k : ℕ) → (k ≡ tokenNumber Name → ⊥) → (k ≡ tokenNumber Digits → ⊥) → (k ≡ fixed "true" → ⊥) → (k ≡ fixed "false" → ⊥) → (k ≡ fixed "(" → ⊥) → (k ≡ fixed "|" → ⊥) → (k ≡ fixed "{" → ⊥) → starter k ≡ true → ⊥
starters k a b c d e f g z =
    let no : (n : ℕ) → (k ≡ n → ⊥) → eqb k n ≡ true → ⊥ = λ n h t. h (eqb-true k n t) in
    or_cases (eqb k (tokenNumber Name)) _ (no (tokenNumber Name) a)
    (or_cases (eqb k (tokenNumber Digits)) _ (no (tokenNumber Digits) b) (or_cases (eqb k (fixed "true")) _ (no (fixed "true") c) (or_cases (eqb k (fixed "false")) _ (no (fixed "false") d)
    (or_cases (eqb k (fixed "(")) _ (no (fixed "(") e) (or_cases (eqb k (fixed "|")) _ (no (fixed "|") f) (no (fixed "{") g)))))) z

module _ {ts : Tokens} {s : Cursor} {x : Read Expr} {w : List ℕ} {m : Machine} (h : State false ts s x w m) where
  abbrev ready : Ready ts w m.c
  ready = h.stacked.ready

  abbrev us : Tokens
  us = drop m.c.at ts

  -- the next token by its number
  pub number-here : (k : ℕ) → number_at w m.c ≡ k → number (here h) ≡ k
  number-here k e = sym (ready-number ready) ∙ e

  pub inside : 0 < number_at w m.c → m.c.at < m.c.count
  inside l = before-end w m.c l

  -- what follows it
  pub next-sign : (l : m.c.at < m.c.count) (sign : String) → is_one_of spellings (ascii sign) ≡ true → next sign (rest us) ≡ eqb (number_at w (next_of m.c)) (fixed sign)
  next-sign l sign known = ap (next sign) (sym (drop-next m.c.at ts)) ∙ next_number_lem (ready-next ready l) sign known

  next-inside : (l : m.c.at < m.c.count) → 0 < number_at w (next_of m.c) → m.c.at + 1 < m.c.count
  next-inside l k = before-end w (next_of m.c) k

  no_row : prefix_at (number_at w m.c) ≡ 0 → prefix_row (here h) ≡ none
  no_row e = prefix_none (here h) (ap prefix_at (sym (ready-number ready)) ∙ e)

  -- an entry for the next token
  leaf_turn : (e : Expr) (k : ℕ) → flat e ≡ leaf k (here h) → k < Kind.limit → 0 < number_at w m.c → reads m.level us ≡ climbs m.level e (rest us) → Turned ts s x w (leaf_written w m k) m (leaf_of m)
  leaf_turn e k one small l step = completes_at h e k one small (inside l) (next_of m.c) (omega arith) refl (stacked_next h.stacked (inside l))
      (step ∙ ap (climbs m.level e) (sym (drop-next m.c.at ts)))

  -- a frame for the next token, past it or past two
  pub enter_next : (K : Class) (l : ℕ) → Simple K → Marked K (here h) → 0 < number_at w m.c → 0 < l → l < 2 ^ level_bits
      → reads m.level us ≡ (reads l (rest us) >>= λ (y, vs). resume (frame K m.level (here h)) y vs)
      → Turned ts s x w (put_slot w m.depth (class_number K) m.level m.c.at) m (Next (pushed_of m (next_of m.c) l))
  enter_next K l simple marked i p q step =
      enters h K (next_of m.c) l simple marked (inside i) (omega arith) (stacked_next h.stacked (inside i)) p q
      (step ∙ ap (λ vs. reads l vs >>= λ (y, ws). resume (frame K m.level (here h)) y ws) (sym (drop-next m.c.at ts)))

  pub enter_second : (K : Class) (l : ℕ) → Simple K → Marked K (here h) → 0 < number_at w m.c → 0 < number_at w (next_of m.c) → 0 < l → l < 2 ^ level_bits
      → reads m.level us ≡ (reads l (rest (rest us)) >>= λ (y, vs). resume (frame K m.level (here h)) y vs)
      → Turned ts s x w (put_slot w m.depth (class_number K) m.level m.c.at) m (Next (pushed_of m (next_of (next_of m.c)) l))
  enter_second K l simple marked i j p q step =
      let n = next-inside (inside i) j in
      enters h K (next_of (next_of m.c)) l simple marked (inside i) (omega arith)
      (stacked_less (stacked_next (stacked_next h.stacked (inside i)) n) (suc (credits h.frames)) (omega arith)) p q
      (step ∙ ap (λ vs. reads l vs >>= λ (y, ws). resume (frame K m.level (here h)) y ws) (sym (drop-two m.c.at ts)))

  module _ (none_here : prefix_at (number_at w m.c) ≡ 0) where
    pub turn-numeral : number_at w m.c ≡ tokenNumber Digits → Turned ts s x w (leaf_written w m Kind.numeral) m (leaf_of m)
    turn-numeral e = leaf_turn (Numeral (here h)) Kind.numeral refl (lit< tt) (omega arith) (starts-numeral m.level us (no_row none_here) (number-here (tokenNumber Digits) e))

    pub turn-true : number_at w m.c ≡ fixed "true" → Turned ts s x w (leaf_written w m Kind.truth) m (leaf_of m)
    turn-true e = leaf_turn (Truth (here h) true) Kind.truth refl (lit< tt) (omega arith) (starts_true m.level us (no_row none_here) (number-here _ e))

    pub turn-false : number_at w m.c ≡ fixed "false" → Turned ts s x w (leaf_written w m Kind.truth) m (leaf_of m)
    turn-false e = leaf_turn (Truth (here h) false) Kind.truth refl (lit< tt) (omega arith) (starts_false m.level us (no_row none_here) (number-here _ e))

    pub turn-round : number_at w m.c ≡ fixed "(" → Turned ts s x w (put_slot w m.depth (class_number Round) m.level m.c.at) m (Next (pushed_of m (next_of m.c) loosest))
    turn-round e = enter_next Round loosest (record { slots = λ l t. refl; trees = λ l t. refl; credit = refl; class = lit< tt }) (λ e. omega arith, tt) (omega arith) (lit< tt) (lit< tt)
        (starts_round m.level us (no_row none_here) (number-here _ e))

    pub turn-bars : number_at w m.c ≡ fixed "|" → Turned ts s x w (put_slot w m.depth (class_number Bars) m.level m.c.at) m (Next (pushed_of m (next_of m.c) loosest))
    turn-bars e = enter_next Bars loosest (record { slots = λ l t. refl; trees = λ l t. refl; credit = refl; class = lit< tt }) (λ e. omega arith, tt) (omega arith) (lit< tt) (lit< tt)
        (starts_bars m.level us (no_row none_here) (number-here _ e))

    -- no operand begins here
    pub turn-not : ((k : ℕ) → starter k ≡ true → number_at w m.c ≡ k → ⊥) → Turned ts s x w w m (Ended (refused_at w m.c))
    turn-not f = refuses h (starts-not m.level us (no_row none_here) (λ k z e. f k z (ready-number ready ∙ e)))

  -- a name
  module _ (named : number_at w m.c ≡ tokenNumber Name) where
    name-row : prefix_row (here h) ≡ none
    unfolding prefix_at
    name-row = no_row (ap prefix_at named)

    pub turn-name : (number_at w (next_of m.c) ≡ fixed "[" → ⊥) → Turned ts s x w (leaf_written w m Kind.named) m (leaf_of m)
    turn-name f =
        leaf_turn (Named (here h)) Kind.named refl (lit< tt) (omega arith)
        (starts-name m.level us name-row (number-here (tokenNumber Name) named) (next-sign (inside (omega arith)) "[" refl ∙ ne_eqb (number_at w (next_of m.c)) _ f))

    pub turn-index : number_at w (next_of m.c) ≡ fixed "[" → Turned ts s x w (put_slot w m.depth (class_number Square) m.level m.c.at) m (Next (pushed_of m (next_of (next_of m.c)) loosest))
    turn-index e =
        enter_second Square loosest (record { slots = λ l t. refl; trees = λ l t. refl; credit = refl; class = lit< tt }) (λ e. omega arith, tt) (omega arith) (omega arith) (lit< tt) (lit< tt)
        (starts-index m.level us name-row (number-here (tokenNumber Name) named) (next-sign (inside (omega arith)) "[" refl ∙ eq-eqb (number_at w (next_of m.c)) _ e))

  -- a set
  module _ (brace : number_at w m.c ≡ fixed "{") where
    brace-row : prefix_row (here h) ≡ none
    unfolding prefix_at
    brace-row = no_row (ap prefix_at brace)

    pub turn-empty : number_at w (next_of m.c) ≡ fixed "}" → Turned ts s x w (put_entry w m.c.out Kind.listed m.c.at 1) m (Next (climbing_of m (emitted_of (next_of (next_of m.c)))))
    turn-empty e =
        let i = inside (omega arith) in
        let n = next-inside i (omega arith) in
        completes_at h (Listed (here h) Empty) Kind.listed refl (lit< tt) i (next_of (next_of m.c)) (omega arith) refl
        (stacked_less (stacked_next (stacked_next h.stacked i) n) (suc (credits h.frames)) (omega arith))
        (starts-empty m.level us brace-row (number-here _ brace) (next-sign i "}" refl ∙ eq-eqb (number_at w (next_of m.c)) _ e) ∙ ap (climbs m.level (Listed (here h) Empty))
        (sym (drop-two m.c.at ts)))

    pub turn-set : (number_at w (next_of m.c) ≡ fixed "}" → ⊥) → Turned ts s x w (put_slot w m.depth (class_number One) m.level m.c.at) m (Next (pushed_of m (next_of m.c) loosest))
    turn-set f =
        enter_next One loosest (record { slots = λ l t. refl; trees = λ l t. refl; credit = refl; class = lit< tt }) (λ e. omega arith, tt) (omega arith) (lit< tt) (lit< tt)
        (starts-set m.level us brace-row (number-here _ brace) (next-sign (inside (omega arith)) "}" refl ∙ ne_eqb (number_at w (next_of m.c)) _ f))
