-- One word of an enumeration: the pass tests it as the scan of the words in the text's order does.
use Rattle.std.specs.Prelude.{ℕ, suc, min, Bool, ◌||◌, ◌≡◌, length}
use mathlib.Core.List.{List, [], ◌∷◌, ◌++◌, map, map-append}
use Rattle.std.proofs.Math.Bool.{true, false, ◌&&◌, not, and-false}
use Rattle.std.proofs.lemmas.Bool.{false≢true}
use Rattle.std.proofs.Math.Option.{Option, none, some}
use Rattle.std.proofs.Math.Path.{refl, ap, ap₂}
use Rattle.std.proofs.Common.{sym, ◌∙◌, subst, arith}
use Rattle.std.proofs.Math.Dec.{eqb, leb, ltb}
use Rattle.std.proofs.lemmas.List.{length-map}
use borrow.Author.Tests.{eqb-true, eqb-false, eq-eqb, ne_eqb, leb-true, leb-false, le-leb, lt-leb, not-true}
use Rattle.language.specs.Limits.{max_words, max_marks}
use Rattle.language.specs.Places.{first}
use Rattle.language.proofs.Laws.Basics.Tests.{pick, leave, and_left, and_right}
use Rattle.language.proofs.Laws.Basics.NoPlace.{first_none}
use Rattle.lexer.specs.Stored.{longest, offset_in, length_in}
use Rattle.enumerations.specs.Given.{Spelled}
use Rattle.enumerations.specs.Scan.{Word, meets, any_meets, good, scan, scan_all}
use Rattle.enumerations.specs.Pass.{Row, State, bytes_at, any_clash, size_of, shut, opened, tested, word, begun, named}

abbrev row_of : Word → Row
row_of u = record { owner = u.owner; marks = u.token.text }

-- lengths may be compared as they are kept
kept_test : (l m : ℕ) → (eqb (min longest l) (min longest m) && leb (min longest m) max_marks) ≡ (eqb l m && leb m max_marks)
kept_test l m = go (leb m max_marks) refl (eqb l m) refl
  where
    go : (a : Bool) → leb m max_marks ≡ a → (b : Bool) → eqb l m ≡ b → (eqb (min longest l) (min longest m) && leb (min longest m) max_marks) ≡ (eqb l m && leb m max_marks)
    go false e b d =
        let h = leb-false m max_marks e in
        ap (λ x. eqb (min longest l) (min longest m) && x) (lt-leb (min longest m) max_marks (omega arith)) ∙ and-false (eqb (min longest l) (min longest m)) ∙ sym
        (ap (λ x. eqb l m && x) e ∙ and-false (eqb l m))
    go true e true d =
        let h = leb-true m max_marks e in
        let k = eqb-true l m d in
        ap₂ ◌&&◌ (eq-eqb (min longest l) (min longest m) (ap (min longest) k)) (le-leb (min longest m) max_marks (omega arith)) ∙ sym (ap₂ ◌&&◌ d e)
    go true e false d =
        let h = leb-true m max_marks e in
        let k = eqb-false l m d in
        ap₂ ◌&&◌ (ne_eqb (min longest l) (min longest m) (λ z. k (omega arith))) (le-leb (min longest m) max_marks (omega arith)) ∙ sym (ap₂ ◌&&◌ d e)

any_clash_lem : (us : List Word) (v : Word) → any_clash v.owner v.token.text (map row_of us) ≡ any_meets us v
any_clash_lem [] v = refl
any_clash_lem (u ∷ us) v = ap (λ b. meets u v || b) (any_clash_lem us v)

module _ (text : List ℕ) (x m n : ℕ) (us : List Word) (v : Word) (s : State) (sp : Spelled text x v.token) (hn : n ≡ min longest m) (ho : s.owner ≡ v.owner) (hr : s.rows ≡ map row_of us) where
  same_lengths : (eqb (length_in x) n && leb n max_marks) ≡ (eqb (length v.token.text) m && leb m max_marks)
  same_lengths = ap₂ (λ l k. eqb l k && leb k max_marks) sp.size hn ∙ kept_test (length v.token.text) m

  same_count : ltb (length s.rows) max_words ≡ ltb (length us) max_words
  same_count = ap (λ l. ltb (length l) max_words) hr ∙ ap (λ k. ltb k max_words) (length-map us row_of)

  -- a word of the right length is read whole
  module _ (a : eqb (length_in x) n ≡ true) (b : leb n max_marks ≡ true) where
    whole : n ≡ length v.token.text
    whole = let e = eqb-true (length_in x) n a in let h = leb-true n max_marks b in let z = sp.size in omega arith

    bytes-here : bytes_at text (offset_in x) n ≡ v.token.text
    bytes-here = ap₂ (bytes_at text) sp.place whole ∙ sp.bytes

    clash-here : any_clash s.owner (bytes_at text (offset_in x) n) s.rows ≡ any_meets us v
    clash-here = ap₂ (λ o w. any_clash o w s.rows) ho bytes-here ∙ ap (any_clash v.owner v.token.text) hr ∙ any_clash_lem us v

  pub tested-good : good m us v ≡ true → tested text x n s ≡ opened s n (row_of v)
  unfolding tested
  tested-good g =
      let l = same_lengths ∙ and_left (eqb (length v.token.text) m && leb m max_marks) _ g in
      let r = and_right (eqb (length v.token.text) m && leb m max_marks) _ g in
      let a = and_left (eqb (length_in x) n) _ l in
      let b = and_right (eqb (length_in x) n) _ l in
      pick (eqb (length_in x) n) _ _ a ∙ pick (leb n max_marks) _ _ b ∙ pick (ltb (length s.rows) max_words) _ _ (same_count ∙ and_left (ltb (length us) max_words) _ r)
      ∙ leave (any_clash s.owner (bytes_at text (offset_in x) n) s.rows) _ _ (clash-here a b ∙ not-true _ (and_right (ltb (length us) max_words) _ r))
      ∙ ap₂ (λ o w. opened s n (record { owner = o; marks = w })) ho (bytes-here a b)

  pub tested-bad : good m us v ≡ false → tested text x n s ≡ shut s v.token.at
  unfolding tested
  tested-bad g = go (eqb (length_in x) n) refl (leb n max_marks) refl (ltb (length s.rows) max_words) refl ∙ ap (shut s) sp.place
    where
      go : (a : Bool) → eqb (length_in x) n ≡ a → (b : Bool) → leb n max_marks ≡ b → (c : Bool) → ltb (length s.rows) max_words ≡ c → tested text x n s ≡ shut s (offset_in x)
      go false ea b eb c ec = leave (eqb (length_in x) n) _ _ ea
      go true ea false eb c ec = pick (eqb (length_in x) n) _ _ ea ∙ leave (leb n max_marks) _ _ eb
      go true ea true eb false ec = pick (eqb (length_in x) n) _ _ ea ∙ pick (leb n max_marks) _ _ eb ∙ leave (ltb (length s.rows) max_words) _ _ ec
      go true ea true eb true ec =
          pick (eqb (length_in x) n) _ _ ea ∙ pick (leb n max_marks) _ _ eb ∙ pick (ltb (length s.rows) max_words) _ _ ec
          ∙ pick (any_clash s.owner (bytes_at text (offset_in x) n) s.rows) _ _ (clash-here ea eb ∙ meets-some (any_meets us v) refl)
        where
          meets-some : (d : Bool) → any_meets us v ≡ d → any_meets us v ≡ true
          meets-some true e = e
          meets-some false e = absurd (false≢true (sym g ∙ ap₂ ◌&&◌ (sym same_lengths ∙ ap₂ ◌&&◌ ea eb) (ap₂ (λ y z. y && not z) (sym same_count ∙ ec) e)))

-- The words vs are still to come, f was found before the enumeration, r is its first bad word: either no bad word was met, or it was.
abbrev pub scan_from : ℕ → List Word → List Word → Option ℕ
scan_from m [] vs = scan_all vs
scan_from m (u ∷ us) vs = scan m (u ∷ us) vs

abbrev Kept : ℕ → List Word → ℕ → Type 0
Kept m [] n = Unit {0}
Kept m (u ∷ us) n = n ≡ min longest m

pub record Opens (f r : Option ℕ) (o : ℕ) (s : State) (vs : List Word) : Type 0 where
  pub marks : ℕ
  pub words : List Word
  pub kept : Kept marks words s.size
  pub owner : s.owner ≡ o
  pub closed : s.closed ≡ false
  pub rows : s.rows ≡ map row_of words
  pub found : s.found ≡ f
  pub scans : scan_from marks words vs ≡ r

pub record Shut (f r : Option ℕ) (s : State) : Type 0 where
  pub closed : s.closed ≡ true
  pub found : s.found ≡ first f r

pub data Pending (f r : Option ℕ) (o : ℕ) (s : State) (vs : List Word) : Type 0 where
  Open : Opens f r o s vs → Pending f r o s vs
  Closed : Shut f r s → Pending f r o s vs

pub pending_end : {f r : Option ℕ} {o : ℕ} {s : State} → Pending f r o s [] → s.found ≡ first f r
pending_end {f} {r} (Open h) = h.found ∙ sym (first_none f) ∙ ap (first f) (none_left h.marks h.words ∙ h.scans)
  where
    none_left : (m : ℕ) (us : List Word) → none ≡ scan_from m us []
    none_left m [] = refl
    none_left m (u ∷ us) = refl
pending_end (Closed h) = h.found

pub pending_name : {f r : Option ℕ} {o : ℕ} {s : State} {vs : List Word} → Pending f r o s vs → Pending f r (suc o) (named s) vs
pending_name (Open h) = Open (record { marks = h.marks; words = h.words; kept = h.kept; owner = ap suc h.owner; closed = h.closed; rows = h.rows; found = h.found; scans = h.scans })
pending_name (Closed h) = Closed (record { closed = h.closed; found = h.found })

pub pending_begin : (s : State) (vs : List Word) → Pending s.found (scan_all vs) 0 (begun s) vs
pending_begin s vs = Open (record { marks = 0; words = []; kept = tt; owner = refl; closed = refl; rows = refl; found = refl; scans = refl })

-- the size that the next word is held to
abbrev size_for : ℕ → List Word → Word → ℕ
size_for m [] v = length v.token.text
size_for m (u ∷ us) v = m

module _ (text : List ℕ) (x : ℕ) (v : Word) (sp : Spelled text x v.token) where
  opens_test : {f r : Option ℕ} {o : ℕ} {s : State} {vs : List Word} (h : Opens f r o s vs) → word text x s ≡ tested text x (size_of (length s.rows) s.size (length_in x)) s
  unfolding word
  opens_test {s = s} h = leave s.closed _ _ h.closed

  next-size : (m : ℕ) (us : List Word) (s : State) → Kept m us s.size → s.rows ≡ map row_of us → size_of (length s.rows) s.size (length_in x) ≡ min longest (size_for m us v)
  unfolding size_of
  next-size m [] s k e = ap (λ l. size_of (length l) s.size (length_in x)) e ∙ sp.size
  next-size m (u ∷ us) s k e = ap (λ l. size_of (length l) s.size (length_in x)) e ∙ leave (eqb (suc (length (map row_of us))) 0) _ _ (ne_eqb (suc (length (map row_of us))) 0 (λ z. omega arith)) ∙ k

  -- the scan goes on after a good word, and ends at a bad one
  scan_good : (m : ℕ) (us vs : List Word) → good (size_for m us v) us v ≡ true → scan_from m us (v ∷ vs) ≡ scan_from (size_for m us v) (us ++ (v ∷ [])) vs
  scan_good m [] vs g = pick (good (length v.token.text) [] v) _ _ g
  scan_good m (u ∷ us) vs g = pick (good m (u ∷ us) v) _ _ g

  scan-bad : (m : ℕ) (us vs : List Word) → good (size_for m us v) us v ≡ false → scan_from m us (v ∷ vs) ≡ some v.token.at
  scan-bad m [] vs g = leave (good (length v.token.text) [] v) _ _ g
  scan-bad m (u ∷ us) vs g = leave (good m (u ∷ us) v) _ _ g

  kept_more : (m : ℕ) (us : List Word) (k : ℕ) → k ≡ min longest m → Kept m (us ++ (v ∷ [])) k
  kept_more m [] k e = e
  kept_more m (u ∷ us) k e = e

  shut-test : {f r : Option ℕ} {s : State} → Shut f r s → word text x s ≡ s
  unfolding word
  shut-test {s = s} h = pick s.closed _ _ h.closed

  open_word : {f r : Option ℕ} {o : ℕ} {s : State} {vs : List Word} → v.owner ≡ o → (h : Opens f r o s (v ∷ vs)) → (b : Bool) → good (size_for h.marks h.words v) h.words v ≡ b
      → Pending f r o (word text x s) vs
  open_word {f} {r} {o} {s} {vs} e h true z =
      let m = size_for h.marks h.words v in
      let n = size_of (length s.rows) s.size (length_in x) in
      let hn : n ≡ min longest m = next-size h.marks h.words s h.kept h.rows in
      subst (λ t. Pending f r o t vs) (sym (opens_test h ∙ tested-good text x m n h.words v s sp hn (h.owner ∙ sym e) h.rows z))
      (Open (record {
        marks = m;
        words = h.words ++ (v ∷ []);
        kept = kept_more m h.words n hn;
        owner = h.owner;
        closed = refl;
        rows = ap (λ l. l ++ (row_of v ∷ [])) h.rows ∙ sym (map-append row_of h.words (v ∷ []));
        found = h.found;
        scans = sym (scan_good h.marks h.words vs z) ∙ h.scans;
      }))
  open_word {f} {r} {o} {s} {vs} e h false z =
      let m = size_for h.marks h.words v in
      let n = size_of (length s.rows) s.size (length_in x) in
      let hn : n ≡ min longest m = next-size h.marks h.words s h.kept h.rows in
      subst (λ t. Pending f r o t vs) (sym (opens_test h ∙ tested-bad text x m n h.words v s sp hn (h.owner ∙ sym e) h.rows z))
      (Closed (record { closed = refl; found = ap₂ first h.found (sym (scan-bad h.marks h.words vs z) ∙ h.scans) }))

  pub pending_word : {f r : Option ℕ} {o : ℕ} {s : State} {vs : List Word} → v.owner ≡ o → Pending f r o s (v ∷ vs) → Pending f r o (word text x s) vs
  pending_word {f} {r} {o} {s} {vs} e (Closed h) = subst (λ t. Pending f r o t vs) (sym (shut-test h)) (Closed h)
  pending_word e (Open h) = open_word e h (good (size_for h.marks h.words v) h.words v) refl
