-- The notes of all names, name by name.
use Rattle.std.specs.Prelude.{ℕ, ◌+◌, ◌≤◌, ◌<◌, Bool, true, false, not, ◌&&◌, List, [], ◌≡◌, refl, eqb, leb, ltb, length, get_or, set}
use Rattle.std.proofs.lemmas.Bool.{false≢true, eqb-false}
use Rattle.std.proofs.Common.{sym, ap, ◌∙◌, subst, arith, get_or-set_same, get_or-set_other, eqb-true, leb-true, ltb-true, ltb-false}
use Rattle.node.specs.Result.{Result}
use Rattle.words.specs.Words.{word_at}
use Rattle.language.specs.Limits.{max_tokens}
use Rattle.language.specs.Tokens.{tokens}
use Rattle.language.specs.Grammar.{Tokens}
use Rattle.language.specs.Tree.{Spec}
use Rattle.language.specs.DeclaredNames.{find}
use Rattle.language.proofs.Laws.Basics.Tests.{and_left, and_right}
use Rattle.entries.specs.Kinds as Kind
use Rattle.entries.specs.Flat.{outline}
use Rattle.entries.specs.Stored.{first_entry, kind_of, EntryAt}
use Rattle.entries.specs.StoredLaws.{entry-kind}
use Rattle.names.specs.Roles.{declares}
use Rattle.names.specs.Scan.{token_of}
use Rattle.names.specs.Walkable.{entry_of}
use Rattle.names.proofs.WalkableLaws.{stored_at}
use Rattle.names.specs.Resolved.{Stored, Resolved}
use Rattle.name_values.specs.World.{Meaning, NoValue, meaning_at}
use Rattle.name_values.specs.Worlds.{in_table}
use Rattle.name_values.specs.Worked.{world_in}
use Rattle.name_values.specs.Sorts as Sort
use Rattle.name_values.proofs.DeclaringLaws.{declared_by, undeclared}
use Rattle.name_values.proofs.IdentifierLaws.{identifier-at}
use Rattle.notes.specs.Notes.{WordsAt, Note}
use Rattle.notes.specs.FirstTable.{first_table}
use Rattle.notes.specs.FirstTableLaws.{first-at}
use Rattle.notes.specs.Noting.{Sorted, NoteIs}

-- a number from m on is m or a further one
from_on : (P : ℕ → Type 0) (m k : ℕ) → m ≤ k → P m → (m < k → P k) → P k
from_on P m k l p further = go (eqb k m) refl
  where
    go : (b : Bool) → eqb k m ≡ b → P k
    go true q = subst P (sym (eqb-true k m q)) p
    go false q = let n = eqb-false k m q in further (omega arith)

-- the kinds of entries that declare names
declared-kinds : (P : ℕ → Type 0) → P Kind.parameter → P Kind.definition → P Kind.enumeration → P Kind.identifier → P Kind.signal → P Kind.bus → P Kind.typed → (k : ℕ)
    → declares Kind.parameter k ≡ true → P k
declared-kinds P a b c d e f g k y =
    let lower = and_left (leb Kind.parameter k && not (eqb k Kind.word)) (leb k Kind.typed) y in
    let low = leb-true Kind.parameter k (and_left (leb Kind.parameter k) (not (eqb k Kind.word)) lower) in
    let high = leb-true k Kind.typed (and_right (leb Kind.parameter k && not (eqb k Kind.word)) (leb k Kind.typed) y) in
    let wordless : k ≡ Kind.word → ⊥ = λ q. false≢true (subst (λ i. not (eqb i Kind.word) ≡ true) q (and_right (leb Kind.parameter k) (not (eqb k Kind.word)) lower)) in
    from_on P Kind.parameter k low a (λ l. from_on P Kind.definition k (omega arith) b (λ l. from_on P Kind.enumeration k (omega arith) c (λ l. from_on P Kind.identifier k (omega arith) d
    (λ l. from_on P Kind.signal k (omega arith) e (λ l. from_on P Kind.bus k (omega arith) f (λ l. from_on P Kind.typed k (omega arith) g (λ l. absurd (omega arith))))))))

-- a name that the table has, or not
table_note : (ts : Tokens) (w : List ℕ) (sort n : ℕ) (m : Meaning) → sort ≡ Sort.nothing → m ≡ NoValue → Note ts w sort n m
table_note ts w sort n m e q = subst (Note ts w sort n) (sym q) e

module _ {x : Spec} {text w refs found : List ℕ} {count entries names : ℕ} (s : Stored text w count entries x) (r : Resolved x refs found names) where
  pub found_inside : (i : ℕ) → i < names → get_or found i 0 < max_tokens
  found_inside i l = let a = (declared_by r [] (first_table x) i l).inside in let b = s.total in let c = s.few in omega arith

  noted_by : (i : ℕ) → i < names → (sort n : ℕ) → Sorted (kind_of (word_at w (first_entry + get_or found i 0))) (get_or found i 0) sort n
      → Note (tokens text) w sort n (meaning_at (world_in x [] (first_table x)) i)
  noted_by i l sort n h =
      let k = get_or found i 0 in
      let b = declared_by r [] (first_table x) i l in
      let own = entry_of (outline x) k in
      let t = token_of own in
      let at : EntryAt w (tokens text) k own = subst (λ j. EntryAt w (tokens text) j own) (omega arith) (stored_at w (tokens text) 0 (outline x) k b.inside s.stored) in
      let f = first-at x r.distinct k b.inside b.declaring in
      let g : Sorted own.kind k sort n = subst (λ j. Sorted j k sort n) (entry-kind at) h in
      let m = meaning_at (world_in x [] (first_table x)) i in
      let N = Note (tokens text) w sort n in
      let stands : (own.kind ≡ Kind.definition → ⊥) → (v : Result _) → find (first_table x) t.text ≡ v → m ≡ in_table v = λ q v e. b.means.other q ∙ ap in_table e in
      declared-kinds (λ j. own.kind ≡ j → N m)
      (λ q. table_note (tokens text) w sort n m (g.parameter q) (stands (λ e. omega arith) _ (f.parameter q)))
      (λ q. let y = b.means.body q in subst N (sym y.defines) (g.definition q))
      (λ q. table_note (tokens text) w sort n m (g.enumeration q) (stands (λ e. omega arith) _ (f.enumeration q)))
      (λ q. let y = identifier-at s r k b.inside q in subst N (sym (stands (λ e. omega arith) _ (f.identifier q ∙ y.listed)))
      ((g.identifier q).0, (let z = (g.identifier q).1 in subst (λ j. WordsAt (tokens text) w j y.words) (sym z) (record { stored = y.stored; fits = y.fits; ends = y.ends }))))
      (λ q. subst N (sym (stands (λ e. omega arith) _ (f.signal q))) (g.signal q))
      (λ q. subst N (sym (stands (λ e. omega arith) _ (f.bus q))) (g.bus q))
      (λ q. subst N (sym (stands (λ e. omega arith) _ (f.typed q))) (g.typed q))
      own.kind b.declaring refl

  pub noted_as : (i : ℕ) → i < names → (k kind sort n : ℕ) → k ≡ get_or found i 0 → kind ≡ kind_of (word_at w (first_entry + k)) → Sorted kind k sort n
      → Note (tokens text) w sort n (meaning_at (world_in x [] (first_table x)) i)
  noted_as i l k kind sort n e q h =
      noted_by i l sort n (subst (λ j. Sorted (kind_of (word_at w (first_entry + j))) j sort n) e (subst (λ j. Sorted j k sort n) q h))

  pub unnoted : (i : ℕ) → names ≤ i → (n : ℕ) → Note (tokens text) w Sort.nothing n (meaning_at (world_in x [] (first_table x)) i)
  unnoted i l n = table_note (tokens text) w Sort.nothing n _ refl (undeclared r [] (first_table x) i l)

-- the notes of the names below i
abbrev pub NotedTo : Spec → List ℕ → List ℕ → List ℕ → List ℕ → ℕ → Type 0
NotedTo x text w sorts numbers i = (r : ℕ) → r < i → Note (tokens text) w (get_or sorts r 0) (get_or numbers r 0) (meaning_at (world_in x [] (first_table x)) r)

pub noted_more : (x : Spec) (text w sorts numbers : List ℕ) (i sort n : ℕ) → i < length sorts → i < length numbers → NotedTo x text w sorts numbers i → NoteIs x text w i sort n
    → NotedTo x text w (set sorts i sort) (set numbers i n) (i + 1)
noted_more x text w sorts numbers i sort n a b h k r l = go (ltb r i) refl
  where
    go : (c : Bool) → ltb r i ≡ c → Note (tokens text) w (get_or (set sorts i sort) r 0) (get_or (set numbers i n) r 0) (meaning_at (world_in x [] (first_table x)) r)
    go true e =
        let d = ltb-true r i e in
        subst (λ s. Note (tokens text) w s (get_or (set numbers i n) r 0) (meaning_at (world_in x [] (first_table x)) r)) (sym (get_or-set_other sorts i r sort 0 (λ q. omega arith)))
        (subst (λ s. Note (tokens text) w (get_or sorts r 0) s (meaning_at (world_in x [] (first_table x)) r)) (sym (get_or-set_other numbers i r n 0 (λ q. omega arith))) (h r d))
    go false e =
        let q : r ≡ i = (let d = ltb-false r i e in omega arith) in
        subst (λ j. Note (tokens text) w (get_or (set sorts i sort) j 0) (get_or (set numbers i n) j 0) (meaning_at (world_in x [] (first_table x)) j)) (sym q)
        (subst (λ s. Note (tokens text) w s (get_or (set numbers i n) i 0) (meaning_at (world_in x [] (first_table x)) i)) (sym (get_or-set_same sorts i sort 0 a))
        (subst (λ s. Note (tokens text) w sort s (meaning_at (world_in x [] (first_table x)) i)) (sym (get_or-set_same numbers i n 0 b)) k.is))
