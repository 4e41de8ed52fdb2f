-- One token, by the number that the code sees: the grammar's tests of it, and the cursor past it.
use Rattle.std.specs.Prelude.{Ok, Err}
use Prim.Native.Nat.{ℕ, ◌+◌, ◌-◌, ◌<◌}
use Prim.Native.String.{String}
use native.Mathlib.Omega.{arith}
use mathlib.Core.List.{List}
use mathlib.Core.Bool.{Bool, true, false}
use mathlib.Core.Option.{some}
use mathlib.Core.Path.{◌≡◌, refl, sym, ap, ◌∙◌, subst}
use lib.Dec.{eqb}
use lib.ListN.{drop}
use borrow.Author.Tests.{eq-eqb, ne_eqb, eqb-true, eqb-false}
use Rattle.node.specs.declared.Refusal.{Refusal}
use Rattle.node.specs.Returned.{refusal}
use Rattle.node.proofs.ReturnedLaws.{same-refusal}
use Rattle.node.specs.Result.{Done, Refused}
use Rattle.language.specs.Bytes.{ascii, is_one_of}
use Rattle.language.specs.Tokens.{Class, Token, is_of}
use Rattle.language.specs.Grammar.{Tokens, Read, front, rest, next as nextIs, expect, expect_of}
use Rattle.language.proofs.Laws.Basics.Tests.{pick, leave}
use Rattle.lexer.specs.Numbers.{spellings, fixed, class_number}
use Rattle.lexer.specs.NumberLaws.{is_plain}
use Rattle.language.specs.Limits.{max_tokens}
use Rattle.entries.specs.Flat.{Entry}
use Rattle.entries.specs.Stored.{Keeps}
use Rattle.entries.specs.declared.Cursor.{Cursor}
use Rattle.entries.specs.Parse.{Parse}
use Rattle.entries.specs.Cursors.{Ready, Readied, number_at, place_at, next_of, refused_at, expected}
use Rattle.entries.specs.CursorLaws.{ready-place, ready-next, before-end, drop-next, expected-here, expected-not}
use Rattle.entries.specs.Reads.{Onward, Took, Reads}
use Rattle.entries.specs.ReadsLaws.{kept_same}
use Rattle.entries.specs.TokenReads.{next_number_lem, next-class, took_none}
use Rattle.parser.specs.Steps.{then_id}
use Rattle.parser.proofs.Laws.Rows.{took_next, reads-tail}

-- the next cursor
pub record Next (c d : Cursor) : Type 0 where
  pub cursor : d ≡ next_of c
  pub at : d.at ≡ c.at + 1
  pub out : d.out ≡ c.out
  pub count : d.count ≡ c.count

pub next_of_lem : {c d : Cursor} → d ≡ next_of c → Next c d
next_of_lem e = record { cursor = e; at = ap (λ (x : Cursor). x.at) e; out = ap (λ (x : Cursor). x.out) e; count = ap (λ (x : Cursor). x.count) e }

-- what an expected token shows
pub record Passed (w : List ℕ) (c d : Cursor) (k : ℕ) : Type 0 where
  pub token : number_at w c ≡ k
  pub next : Next c d

pub passed : (w : List ℕ) (c : Cursor) (k : ℕ) {q : Parse} {d : Cursor} → q ≡ expected w c k → q ≡ Ok d → Passed w c d k
passed w c k {q} {d} f e = go (eqb (number_at w c) k) refl
  where
    go : (b : Bool) → eqb (number_at w c) k ≡ b → Passed w c d k
    go true t =
        let same : number_at w c ≡ k = eqb-true (number_at w c) k t in
        let z : ◌≡◌ {A = Parse} (Ok d) (Ok (next_of c)) = sym e ∙ f ∙ expected-here w c k same in
        record { token = same; next = next_of_lem (cc) }
    go false t =
        let z : ◌≡◌ {A = Parse} (Ok d) (refused_at w c) = sym e ∙ f ∙ expected-not w c k (eqb-false (number_at w c) k t) in
        let y : ◌≡◌ {A = ℕ} 0 1 = cc in
        absurd (omega arith)

pub record Stopped (w : List ℕ) (c : Cursor) (k n p : ℕ) : Type 0 where
  pub token : number_at w c ≡ k → ⊥
  pub number : n ≡ 4
  pub place : p ≡ place_at w c

pub stopped : (w : List ℕ) (c : Cursor) (k : ℕ) {q : Parse} {n p : ℕ} → q ≡ expected w c k → q ≡ Err (refusal n p) → Stopped w c k n p
stopped w c k {q} {n} {p} f e = go (eqb (number_at w c) k) refl
  where
    go : (b : Bool) → eqb (number_at w c) k ≡ b → Stopped w c k n p
    go true t =
        let z : ◌≡◌ {A = Parse} (Err (refusal n p)) (Ok (next_of c)) = sym e ∙ f ∙ expected-here w c k (eqb-true (number_at w c) k t) in
        let y : ◌≡◌ {A = ℕ} 0 1 = cc in
        absurd (omega arith)
    go false t =
        let other = eqb-false (number_at w c) k t in
        let z : ◌≡◌ {A = Parse} (Err (refusal n p)) (Err (refusal 4 (place_at w c))) = sym e ∙ f ∙ expected-not w c k other in
        let same = same-refusal z in
        record { token = other; number = ap (λ (r : Refusal). r.number) same; place = ap (λ (r : Refusal). r.place) same }

pub stopped_as : {n p q : ℕ} → n ≡ 4 → p ≡ q → ◌≡◌ {A = Read Token} (Refused 4 q) (Refused n p)
stopped_as e f = cc

module _ {ts : Tokens} {w : List ℕ} {c : Cursor} (ready : Ready ts w c) where
  -- the token behind
  pub rest-next : rest (drop c.at ts) ≡ drop (next_of c).at ts
  rest-next = sym (drop-next c.at ts)

  -- a sign or word stands here, or does not
  module _ (s : String) (known : is_one_of spellings (ascii s) ≡ true) where
    pub here : number_at w c ≡ fixed s → nextIs s (drop c.at ts) ≡ true
    here e = next_number_lem ready s known ∙ eq-eqb _ _ e

    pub elsewhere : (number_at w c ≡ fixed s → ⊥) → nextIs s (drop c.at ts) ≡ false
    elsewhere e = next_number_lem ready s known ∙ ne_eqb _ _ e

    expect-here : number_at w c ≡ fixed s → expect s (drop c.at ts) ≡ Done (front (drop c.at ts), drop (next_of c).at ts)
    expect-here e = pick (nextIs s (drop c.at ts)) _ _ (here e) ∙ ap (λ us. Done (front (drop c.at ts), us)) rest-next

    pub expect-passed : {d : Cursor} → Passed w c d (fixed s) → expect s (drop c.at ts) ≡ Done (front (drop c.at ts), drop d.at ts)
    expect-passed h = expect-here h.token ∙ ap (λ (x : Cursor). Done (front (drop c.at ts), drop x.at ts)) (sym h.next.cursor)

    pub expect-not : {n p : ℕ} → Stopped w c (fixed s) n p → expect s (drop c.at ts) ≡ Refused n p
    expect-not h = leave (nextIs s (drop c.at ts)) _ _ (elsewhere h.token) ∙ stopped_as h.number (h.place ∙ ready-place ready)

  -- a token of a class
  module _ (k : Class) (plain : is_plain k ≡ true) where
    pub class-here : number_at w c ≡ class_number k → is_of k (front (drop c.at ts)) ≡ true
    class-here e = next-class ready k plain ∙ eq-eqb _ _ e

    pub class-elsewhere : (number_at w c ≡ class_number k → ⊥) → is_of k (front (drop c.at ts)) ≡ false
    class-elsewhere e = next-class ready k plain ∙ ne_eqb _ _ e

    pub expectOf-here : number_at w c ≡ class_number k → expect_of k (drop c.at ts) ≡ Done (front (drop c.at ts), drop (next_of c).at ts)
    expectOf-here e = pick (is_of k (front (drop c.at ts))) _ _ (class-here e) ∙ ap (λ us. Done (front (drop c.at ts), us)) rest-next

    pub expectOf-passed : {d : Cursor} → Passed w c d (class_number k) → expect_of k (drop c.at ts) ≡ Done (front (drop c.at ts), drop d.at ts)
    expectOf-passed h = expectOf-here h.token ∙ ap (λ (x : Cursor). Done (front (drop c.at ts), drop x.at ts)) (sym h.next.cursor)

    pub expectOf-not : {n p : ℕ} → Stopped w c (class_number k) n p → expect_of k (drop c.at ts) ≡ Refused n p
    expectOf-not h = leave (is_of k (front (drop c.at ts))) _ _ (class-elsewhere h.token) ∙ stopped_as h.number (h.place ∙ ready-place ready)

  -- the next token is kept by its index
  pub keeps_here : c.at < c.count → Keeps ts c.at (some (front (drop c.at ts)))
  keeps_here l = (refl, omega (arith, ready.tells.total))

  -- a token that is no end may be passed
  pub next_fits : {k : ℕ} → number_at w c ≡ k → 0 < k → c.at < max_tokens
  next_fits e l = omega (arith, before-end w c (omega (arith, e)), ready.fits.few)

  -- a turn of a loop takes a token
  pub turn_falls : {d f : Cursor} {k : ℕ} → Onward d c → number_at w c ≡ k → 0 < k → f ≡ next_of c → f.count - f.at < d.count - d.at
  turn_falls {d} {f} o e l past =
      let inside : c.at < c.count = before-end w c (omega (arith, e)) in
      let at : f.at ≡ c.at + 1 = ap (λ (x : Cursor). x.at) past in
      let count : f.count ≡ c.count = ap (λ (x : Cursor). x.count) past in
      omega (arith, o.further, o.count)

  -- the cursor past a token
  pub inside : {k : ℕ} → number_at w c ≡ k → 0 < k → c.at < c.count
  inside e l = before-end w c (omega (arith, e))

  pub past-ready : {d : Cursor} → Next c d → c.at < c.count → Ready ts w d
  past-ready h l = subst (Ready ts w) (sym h.cursor) (ready-next ready l)

  pub passed-ready : {d : Cursor} {k : ℕ} → Passed w c d k → 0 < k → Ready ts w d
  passed-ready h l = past-ready h.next (inside h.token l)

  pub passed_readied : {d : Cursor} {k : ℕ} → Passed w c d k → 0 < k → Readied w d
  passed_readied h l = record { tokens = ts; ready = passed-ready h l }

-- the tokens behind it
pub rest-past : (ts : Tokens) {c d : Cursor} → Next c d → rest (drop c.at ts) ≡ drop d.at ts
rest-past ts {c} h = sym (drop-next c.at ts) ∙ ap (λ (x : Cursor). drop x.at ts) (sym h.cursor)

pub took_past : {ts : Tokens} {w : List ℕ} {s c d : Cursor} {es : List Entry} → Took ts w s c es → Next c d → c.at < c.count → Took ts w s d es
took_past {ts} {w} {s} {es = es} t h l = subst (λ x. Took ts w s x es) (sym h.cursor) (took_next t l)

pub took_passed : {ts : Tokens} {w : List ℕ} {s c d : Cursor} {es : List Entry} {k : ℕ} → Took ts w s c es → Passed w c d k → 0 < k → Took ts w s d es
took_passed t h l = took_past t h.next (inside t.ready h.token l)

-- what is read behind a token
pub reads-behind : {A : Type 0} {ts : Tokens} {w v : List ℕ} {c d : Cursor} {f : A → List Entry} {x y : Read A} {q : Parse} → Ready ts w c → Next c d → c.at < c.count → x ≡ y → Reads ts w v d f y q
    → Reads ts w v c f x q
reads-behind {w = w} {c = c} {y = y} ready h l e r = reads-tail (λ b. b) (e ∙ then_id y) (λ b. refl) (kept_same w c.out) (took_past (took_none ready) h l) r
