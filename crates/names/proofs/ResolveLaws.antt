-- What the walks have found is what refusals 6, 7 and 8 say of the tree, and what its names refer to.
use Rattle.std.specs.Prelude.{ℕ, zero, suc, ◌+◌, ◌-◌, ◌*◌, ◌≤◌, ◌<◌, min, List, [], true, false, ◌⊎◌, ◌≡◌, length, get_or, drop, replicate, Ok, Err, unwrap_or}
use Rattle.std.proofs.Common.{inl, inr, ap₂, ◌∙◌, arith, drop_of_length-le}
use Rattle.std.proofs.Math.Option.{Option, none, some}
use Rattle.std.proofs.Math.Path.{refl, sym, ap, subst}
use Rattle.std.proofs.lemmas.List.{length-replicate, get_or-replicate}
use Rattle.node.specs.Result.{Done}
use Rattle.node.specs.Returned.{Returned, refusal}
use Rattle.language.specs.Limits.{max_bytes, max_tokens, max_names}
use Rattle.language.specs.Tokens.{Token, tokens}
use Rattle.language.specs.Tree.{Spec}
use Rattle.language.specs.Places.{first, refuse_at, all_lines}
use Rattle.language.specs.Names.{Names, hidden, again, nowhere, declares, declares_signal, over, not_visible, doubled, declared_again, walk_lines, place_of_first, too_many}
use Rattle.language.proofs.Laws.Basics.NoPlace.{first_none}
use Rattle.entries.specs.Kinds as Kind
use Rattle.entries.specs.Flat.{outline}
use Rattle.names.specs.Scan.{scan}
use Rattle.names.proofs.AlikeLaws.{steady-hidden, steady-again, steady-nowhere}
use Rattle.names.proofs.OutlineLaws.{scan-outline}
use Rattle.names.specs.Declaring.{declared_in}
use Rattle.names.proofs.DeclaringLaws.{declared-outline}
use Rattle.names.specs.Balanced.{balanced_outline}
use Rattle.names.proofs.NameReads.{names-read}
use Rattle.spellings.specs.Interned.{top, Lexed, Interned, Begun}
use Rattle.spellings.specs.InternLaws.{begun_zeros}
use Rattle.spellings.specs.TopLaws.{below_top}
use Rattle.names.specs.Tables.{no_place, place_of}
use Rattle.names.proofs.TableLaws.{below_or_not, place_some, place_none, place-min}
use Rattle.names.specs.Walkable.{Walkable, Table}
use Rattle.names.specs.Meeting.{declared_from}
use Rattle.names.proofs.MeetingLaws.{declared_none}
use Rattle.names.specs.References.{number_in, reference, last_first, Where, pushed}
use Rattle.names.specs.Numbering.{Numbered}
use Rattle.names.specs.Census.{Blanks, Undeclared, Declared}
use Rattle.names.specs.Walking.{visible_before, open_before, refers_to, visible_at, Walking}
use Rattle.names.specs.States.{Begins, WalksAll}
use Rattle.names.specs.Answering.{answer_of}
use Rattle.names.proofs.AnsweringLaws.{answer-hidden, answer-again, answer-many, answer-named}
use Rattle.names.specs.Short.{short_bytes, short_entries, Fits}
use Rattle.names.specs.Resolved.{Stored, TreeStored, naming, Resolved, Answers}
use Rattle.names.specs.declared.census.Census.{Census}
use Rattle.names.specs.declared.walk.Walk.{Walk}

-- the tree's entries, its names numbered
abbrev walkable : {text w ids : List ℕ} {count entries : ℕ} {x : Spec} → Stored text w count entries x → Interned (tokens text) count ids → max_tokens ≤ length ids → Walkable w ids entries
walkable {text} {count = count} {x = x} s i r =
    record {
      text = text;
      count = count;
      es = outline x;
      lexed = s.lexed;
      total = s.total;
      few = s.few;
      stored = s.stored;
      named = names-read (tokens text) s.read;
      balanced = balanced_outline
          x;
      interned = i;
      room = r;
    }

-- a table that holds no place, with room for a node for each byte
blank-table : (text : List ℕ) {w ids : List ℕ} {entries : ℕ} (h : Walkable w ids entries) (n : ℕ) → top ids ≤ length text + 1 → length text < n → Table h (replicate n no_place) (λ t. no_place)
blank-table text {ids = ids} h n t l =
    let z = length-replicate {A = ℕ} n no_place in
    record { room = omega arith; holds = λ j m y. get_or-replicate n (get_or ids j 0) no_place 0 (let b = below_top ids j in omega arith) }

module _ {w ids : List ℕ} {entries : ℕ} (h : Walkable w ids entries) where
  abbrev all : Names
  all = declared_from h Kind.parameter 0

  nothing_left : (low : ℕ) → declared_from h low entries ≡ []
  nothing_left low = ap (declared_in low) (drop_of_length-le h.es {i = entries} (let t = h.total in omega arith)) ∙ declared_none low

  -- all names are numbered
  passed-all : {table found : List ℕ} {count place : ℕ} (n : Numbered h entries table found count place) → n.passed ≡ last_first all
  passed-all n = ap (λ ns. pushed ns n.passed) (sym (nothing_left Kind.parameter)) ∙ n.all

  first-visible : visible_at h (last_first all) 0 ≡ declared_from h Kind.signal 0
  unfolding visible_before
  first-visible = refl

  -- the walk begins
  walk_begins : {seen table found stack refs : List ℕ} {census : Census} → Declared h seen table found census → 3 * entries ≤ length stack → max_tokens ≤ length refs
      → Walking h (last_first all) 0 seen table stack refs 0 no_place no_place
  unfolding open_before visible_before reference
  walk_begins {table = table} d a b =
      record {
        placed = d.placed;
        shown = d.shown;
        points = subst (λ ns. Table h table (number_in ns)) (passed-all d.numbered) d.numbered.shown;
        opened = tt;
        deep = refl;
        small = omega arith;
        balanced = h.balanced;
        hides = ap (λ o. first o (scan hidden nowhere (declared_from h Kind.signal 0) h.es)) (sym (place_none no_place (omega arith)));
        meets = ap (λ o. first o (scan nowhere again (declared_from h Kind.signal 0) h.es)) (sym (place_none no_place (omega arith)));
        refers = λ i l y. absurd (omega arith);
        stack_room = a;
        refs_room = b;
      }

  -- and ends
  scan-end : (used bound : Names → Token → Option ℕ) (ns : Names) → scan used bound ns (drop entries h.es) ≡ none
  unfolding scan
  scan-end used bound ns = ap (scan used bound ns) (drop_of_length-le h.es {i = entries} (let t = h.total in omega arith))

  module _ {seen table stack refs : List ℕ} {depth p q : ℕ} (s : Walking h (last_first all) entries seen table stack refs depth p q) where
    walk-hides : scan hidden nowhere (declared_from h Kind.signal 0) h.es ≡ place_of p
    walk-hides =
        ap (λ ns. scan hidden nowhere ns h.es) (sym first-visible) ∙ s.hides ∙ ap (first (place_of p)) (scan-end hidden nowhere (visible_at h (last_first all) entries)) ∙ first_none (place_of p)

    walk_meets : scan nowhere again (declared_from h Kind.signal 0) h.es ≡ place_of q
    walk_meets =
        ap (λ ns. scan nowhere again ns h.es) (sym first-visible) ∙ s.meets ∙ ap (first (place_of q)) (scan-end nowhere again (visible_at h (last_first all) entries)) ∙ first_none (place_of q)

  -- the 257th name
  many_none : {table found : List ℕ} {count place : ℕ} → Numbered h entries table found count place → count ≤ max_names → place_of_first (drop max_names all) ≡ none
  many_none {count = count} n l = ap place_of_first (n.before l ∙ ap (drop (max_names - count)) (nothing_left Kind.parameter) ∙ drop-nothing (max_names - count))
    where
      drop-nothing : (k : ℕ) → ◌≡◌ {A = Names} (drop k []) []
      drop-nothing zero = refl
      drop-nothing (suc k) = refl

module _ {text w : List ℕ} {count entries : ℕ} where
  pub short_fits : TreeStored text w count entries → length text ≤ short_bytes → entries ≤ short_entries
      → Fits text w count entries (short_bytes + 1) (3 * (short_bytes + 1)) (3 * short_entries)
  short_fits s b e = record { tree = s; bytes = omega arith; links = refl; few = omega arith; nodes = omega arith; words = omega arith }

  pub long_fits : TreeStored text w count entries → Fits text w count entries (max_bytes + 1) (3 * (max_bytes + 1)) (3 * max_tokens)
  long_fits s = record { tree = s; bytes = omega (arith, s.stored.lexed.lexical.short); links = refl; few = let l = s.stored.few in omega arith; nodes = omega arith; words = omega arith }

  pub begun : {n l m : ℕ} → Fits text w count entries n l m → Lexed text w count × Begun text (replicate l 0) (replicate n 0) (replicate max_tokens 0)
  begun {n} {l} f = (f.tree.stored.lexed, begun_zeros l n max_tokens (let k = f.links in omega arith) f.bytes (omega arith))

-- an array of zeros is as long as it is, also when it is written
zeros_long : (n : ℕ) {m : ℕ} → m ≤ n → m ≤ length (replicate {A = ℕ} n 0)
zeros_long n l = rw (length-replicate {A = ℕ} n 0) l

zeros_kept : (n : ℕ) (ns : List ℕ) → length ns ≡ length (replicate {A = ℕ} n 0) → n ≤ length ns
zeros_kept n ns e = let z = length-replicate {A = ℕ} n 0 in omega arith

-- for a stored tree, its names numbered, and tables that held no place
module _
    {text w ids : List ℕ} {count entries n l m : ℕ}
    (f : Fits text w count entries n l m)
    {x : Spec}
    (st : Stored text w count entries x)
    (i : Interned (tokens text) count ids × (top ids ≤ length text + 1))
    (e : length ids ≡ length (replicate {A = ℕ} max_tokens 0))
  where
    abbrev h : Walkable w ids entries
    h = walkable st i.0 (zeros_kept max_tokens ids e)

    abbrev blank : List ℕ
    blank = replicate n no_place

    signals_are : declared_from h Kind.signal 0 ≡ over declares_signal (all_lines x)
    signals_are = declared-outline true x

    names_are : declared_from h Kind.parameter 0 ≡ over declares (all_lines x)
    names_are = declared-outline false x

    blanks : Blanks h blank blank blank
    blanks = let b = blank-table text h n i.1 f.bytes in record { met-blank = b; seen-blank = b; table-blank = b }

    pub undeclared : {found : List ℕ} → max_names ≤ length found → Undeclared w ids entries blank blank blank found
    undeclared r = record { walkable = h; blanks = blanks; room = r }

    module _ {seen table found : List ℕ} {census : Census} (read : (g : Walkable w ids entries) → Blanks g blank blank blank → Declared g seen table found census) where
      abbrev d : Declared h seen table found census
      d = read h blanks

      walking : {refs : List ℕ} → max_tokens ≤ length refs → Walking h (last_first (declared_from h Kind.parameter 0)) 0 seen table (replicate m 0) refs 0 no_place no_place
      walking r = walk_begins h d (zeros_long m f.few) r

      pub begins : {refs : List ℕ} → max_tokens ≤ length refs → Begins w ids entries seen table (replicate m 0) refs
      begins r = record { walkable = h; declared = last_first (declared_from h Kind.parameter 0); walking = walking r }

      module _
          {refs seen' table' stack' refs' : List ℕ} {walk : Walk}
          (walked : WalksAll w ids entries seen table (replicate m 0) refs seen' table' stack' refs' walk)
          (r : max_tokens ≤ length refs)
        where
          s : Walking h (last_first (declared_from h Kind.parameter 0)) entries seen' table' stack' refs' walk.depth walk.hidden walk.again
          s = walked.walking h (last_first (declared_from h Kind.parameter 0)) (walking r)

          abbrev p : ℕ
          p = walk.hidden

          abbrev q : ℕ
          q = min census.again walk.again

          abbrev c : ℕ
          c = census.tally.count

          not-visible : not_visible x ≡ place_of p
          not-visible =
              ap (λ ns. walk_lines hidden nowhere ns (all_lines x)) (sym signals_are)
              ∙ sym (scan-outline hidden nowhere steady-hidden steady-nowhere x (declared_from h Kind.signal 0)) ∙ walk-hides h s

          declared-again : declared_again x ≡ place_of q
          declared-again =
              ap₂ first (ap doubled (sym names_are) ∙ sym d.doubles)
              (ap (λ ns. walk_lines nowhere again ns (all_lines x)) (sym signals_are)
              ∙ sym (scan-outline nowhere again steady-nowhere steady-again x (declared_from h Kind.signal 0)) ∙ walk_meets h s)
              ∙ place-min census.again walk.again

          too-many-none : c ≤ max_names → too_many x ≡ none
          too-many-none m = ap (λ ns. place_of_first (drop max_names ns)) (sym names_are) ∙ many_none h d.numbered m

          too-many-some : max_names < c → too_many x ≡ some (unwrap_or census.tally.place 0)
          too-many-some m = ap (λ ns. place_of_first (drop max_names ns)) (sym names_are) ∙ d.numbered.behind m

          resolved : no_place ≤ p → no_place ≤ q → c ≤ max_names → Resolved x refs' found c
          resolved lp lq lc =
              record {
                count = d.numbered.counted ∙ ap length (passed-all h d.numbered ∙ ap last_first names_are);
                few = lc;
                visible = not-visible ∙ place_none p lp;
                distinct = declared-again ∙ place_none q lq;
                refers = λ i m y. s.refers i (let t = st.total in omega arith) y ∙ ap (λ ns. refers_to ns (outline x) i) (ap last_first names_are);
                entries = subst (Where (outline x) found) (passed-all h d.numbered ∙ ap last_first names_are) d.numbered.found;
              }

          pub answers : {ans : Returned ℕ} → ans ≡ answer_of p q c (unwrap_or census.tally.place 0) → Answers x refs' found ans
          unfolding refuse_at
          answers {ans} e = go (below_or_not p no_place) (below_or_not q no_place) (below_or_not max_names c)
            where
              at : (o : Returned ℕ) → o ≡ answer_of p q c (unwrap_or census.tally.place 0) → Answers x refs' found o → Answers x refs' found ans
              at o f g = subst (Answers x refs' found) (f ∙ sym e) g

              -- behind 6 and 7
              later : no_place ≤ p → no_place ≤ q → naming x ≡ refuse_at 8 (too_many x) (Done x)
              later lp lq = ap₂ (λ o u. refuse_at 6 o (refuse_at 7 u (refuse_at 8 (too_many x) (Done x)))) (not-visible ∙ place_none p lp) (declared-again ∙ place_none q lq)

              go : (p < no_place) ⊎ (no_place ≤ p) → (q < no_place) ⊎ (no_place ≤ q) → (max_names < c) ⊎ (c ≤ max_names) → Answers x refs' found ans
              go (inl lp) y z =
                  at (Err (refusal 6 p)) (answer-hidden p q c (unwrap_or census.tally.place 0) lp)
                  (record { says = ap (λ o. refuse_at 6 o (refuse_at 7 (declared_again x) (refuse_at 8 (too_many x) (Done x)))) (not-visible ∙ place_some p lp) })
              go (inr lp) (inl lq) z =
                  at (Err (refusal 7 q)) (answer-again p q c (unwrap_or census.tally.place 0) refl lp lq)
                  (record { says = ap₂ (λ o u. refuse_at 6 o (refuse_at 7 u (refuse_at 8 (too_many x) (Done x)))) (not-visible ∙ place_none p lp) (declared-again ∙ place_some q lq) })
              go (inr lp) (inr lq) (inl lc) =
                  at (Err (refusal 8 (unwrap_or census.tally.place 0))) (answer-many p q c (unwrap_or census.tally.place 0) refl lp lq lc)
                  (record { says = later lp lq ∙ ap (λ o. refuse_at 8 o (Done x)) (too-many-some lc) })
              go (inr lp) (inr lq) (inr lc) =
                  at (Ok c) (answer-named p q c (unwrap_or census.tally.place 0) refl lp lq lc)
                  (record { says = (later lp lq ∙ ap (λ o. refuse_at 8 o (Done x)) (too-many-none lc), resolved lp lq lc) })
