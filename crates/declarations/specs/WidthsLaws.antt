-- The width of a signal or a bus is the definition's.
use Rattle.std.specs.Prelude.{ℕ, zero, suc, ◌+◌, ◌-◌, ◌≤◌, ◌<◌, min, Bool, ◌&&◌, List, [], ◌≡◌, refl, leb, Ok, Err}
use Rattle.std.proofs.Common.{sym, ap, ◌∙◌, subst, arith, le-leb}
use Rattle.std.proofs.lemmas.Bool.{lt-leb}
use Rattle.node.specs.Result.{Result, Done, Refused, ◌>>=◌}
use Rattle.node.proofs.ResultLaws.{guard-pass, guard-stop, bind_to, bind_refused}
use Rattle.node.specs.Returned.{Returned, refusal}
use Rattle.node.specs.declared.Refusal.{Refusal}
use Rattle.words.specs.Words.{word_at}
use Rattle.language.specs.Limits.{max_width, max_tokens}
use Rattle.language.specs.Tokens.{Token, tokens}
use Rattle.language.specs.Grammar.{Tokens}
use Rattle.language.specs.Tree.{Expr, Definition, Declaration, OneSignal, OfWidth, OfType, Spec}
use Rattle.language.specs.Values.{number, value}
use Rattle.language.specs.DeclaredNames.{Table, declared, defining, words_of_type, word_width, sized, port_of, as_declared}
use Rattle.language.specs.Expansion.{Context, context_of, define_all}
use Rattle.language.specs.Listed.{declared_name}
use Rattle.language.proofs.Laws.Values.RegularWords.{regular_type}
use Rattle.lexer.specs.Stored.{longest}
use Rattle.entries.specs.Kinds as Kind
use Rattle.entries.specs.Stored.{first_entry, kind_of}
use Rattle.entries.specs.StoredLaws.{entry-kind}
use Rattle.spellings.specs.Interned.{Lexed}
use Rattle.sets.specs.Answers.{says}
use Rattle.name_values.specs.World.{Stands}
use Rattle.name_values.specs.Sorts as Sort
use Rattle.name_values.specs.Declaring.{EnumerationAt}
use Rattle.operands.specs.Entries.{place_at}
use Rattle.notes.specs.Notes.{Note}
use Rattle.notes.specs.Owned.{kind_of as kindOfDeclaration}
use Rattle.declarations.specs.TreeLaws.{tree-realm, tree-expression, tree-before}
use Rattle.declarations.specs.Expressions.{Room, Expression, Workable, Numbered}
use Rattle.declarations.specs.Enumerations.{no_entry}
use Rattle.declarations.specs.EnumerationLaws.{entry_offset}
use Rattle.language.proofs.Laws.Values.NameLaws.{defined_values}
use Rattle.declarations.specs.Widths.{port_for, Sizing, SizedBy, Sizes, IsSized, sort_of}

no_value : (n p m : ℕ) → ◌≡◌ {A = Returned ℕ} (Err (refusal n p)) (Ok m) → ⊥
no_value n p m e = let z : ◌≡◌ {A = ℕ} 0 1 = cc in omega arith

pub sized_none : (n place : ℕ) → n < 1 → IsSized n place (Err (refusal 13 place))
sized_none n place l = record {
  is = sym (guard-stop 13 place (Done n) (ap (λ b. b && leb n max_width) (lt-leb 1 n l)));
  same = λ m e. absurd (no_value 13 place m e);
  small = λ m e. absurd
      (no_value 13 place m e);
}

pub sized_wide : (n place : ℕ) → max_width < n → IsSized n place (Err (refusal 13 place))
sized_wide n place l =
    record {
      is = sym (guard-stop 13 place (Done n) (ap (λ b. b && leb n max_width) (le-leb 1 n (omega arith)) ∙ lt-leb n max_width l));
      same = λ m e. absurd (no_value 13 place m e);
      small = λ m e.
          absurd (no_value 13 place m e);
    }

pub sized-fits : (n place : ℕ) → 1 ≤ n → n ≤ max_width → IsSized n place (Ok n)
sized-fits n place l h =
    record { is = sym (guard-pass 13 place (Done n) (ap (λ b. b && leb n max_width) (le-leb 1 n l) ∙ le-leb n max_width h)); same = λ m e. cc; small = λ m e. (let q : m ≡ n = cc in omega arith) }

module _ (defs : List Definition) (d : Table) where
  sized_port : (m : Declaration) (x : Token) (n : ℕ) (r : Returned ℕ) → ((output : Bool) → port_of defs output d m ≡ (sized x n >>= λ k. Done (port_for defs output m k))) → IsSized n x.at r
      → SizedBy defs d m r
  sized_port m x n (Ok k) f h = ((λ output. f output ∙ bind_to (sized x n) k (λ j. Done (port_for defs output m j)) (sym h.is)), h.small k refl)
  sized_port m x n (Err u) f h = λ output. f output ∙ bind_refused (sized x n) u.number u.place (λ j. Done (port_for defs output m j)) (sym h.is)

module _ {text w refs found : List ℕ} {entries names : ℕ} {sorts numbers : List ℕ} {k e : ℕ} {x : Spec} {d : Table} {m : Declaration}
    (s : Sizing text w refs found entries names sorts numbers k e x d m) where
  abbrev kind : ℕ
  kind = kind_of (word_at w (first_entry + k))

  pub sizing_kind : kind ≡ kindOfDeclaration m
  sizing_kind = entry-kind s.there.own.entry

  pub sizing_place : place_at w k ≡ (declared_name m).at
  unfolding place_at
  sizing_place = entry_offset s.tree.stored.lexed s.there.own.entry

by_declaration : (P : Declaration → Type 0) → ((n : Token) → P (OneSignal n)) → ((n : Token) (b : Expr) → P (OfWidth n b)) → ((u n : Token) → P (OfType u n)) → (m : Declaration) → P m
by_declaration P f g h (OneSignal n) = f n
by_declaration P f g h (OfWidth n b) = g n b
by_declaration P f g h (OfType u n) = h u n

module _ (text w refs found : List ℕ) (entries names : ℕ) (sorts numbers : List ℕ) (k e : ℕ) (x : Spec) (d : Table) where
  abbrev Sized : Declaration → Type 0
  Sized m = Sizing text w refs found entries names sorts numbers k e x d m

  -- a single signal
  pub sizes_signal : (m : Declaration) → Sized m → kind_of (word_at w (first_entry + k)) ≡ Kind.signal → Sizes x.definitions d m (Ok 0)
  sizes_signal (OneSignal n) s q = record { told = ((λ output. refl), omega arith) }
  sizes_signal (OfWidth n b) s q = absurd (let z = sizing_kind s in omega arith)
  sizes_signal (OfType u n) s q = absurd (let z = sizing_kind s in omega arith)

  -- a bus by its enumeration
  pub typed_there : (m : Declaration) → Sized m → kind_of (word_at w (first_entry + k)) ≡ Kind.typed → (e ≡ no_entry → ⊥) → e < max_tokens
  typed_there (OneSignal n) s q l = absurd (let z = sizing_kind s in omega arith)
  typed_there (OfWidth n b) s q l = absurd (let z = sizing_kind s in omega arith)
  typed_there (OfType u n) s q l = (s.enumerated.there l).0

  pub sizes_typed : (m : Declaration) → Sized m → kind_of (word_at w (first_entry + k)) ≡ Kind.typed → (e ≡ no_entry → ⊥) → (n : ℕ)
      → ((text : List ℕ) (count : ℕ) (words : List Token) → Lexed text w count → EnumerationAt (tokens text) w e words → n ≡ min longest (word_width words)) → (r : Returned ℕ)
      → IsSized n (declared_name m).at r → Sizes x.definitions d m r
  sizes_typed (OneSignal t) s q l n f r h = absurd (let z = sizing_kind s in omega arith)
  sizes_typed (OfWidth t b) s q l n f r h = absurd (let z = sizing_kind s in omega arith)
  sizes_typed (OfType u t) s q l n f r h =
      let words = words_of_type x.definitions u in
      let narrow = (regular_type x.definitions s.regular u).narrow in
      let is = f text s.tree.count words s.tree.stored.lexed (s.enumerated.there l).1 in
      let same : n ≡ word_width words = omega arith in
      record { told = sized_port x.definitions d (OfType u t) t n r (λ output. ap (λ i. sized t i >>= λ j. Done (port_for x.definitions output (OfType u t) j)) (sym same)) h }

  pub sizes_untyped : (m : Declaration) → Sized m → kind_of (word_at w (first_entry + k)) ≡ Kind.typed → e ≡ no_entry → (r : Returned ℕ) → IsSized 0 (declared_name m).at r → Sizes x.definitions d m r
  sizes_untyped (OneSignal t) s q l r h = absurd (let z = sizing_kind s in omega arith)
  sizes_untyped (OfWidth t b) s q l r h = absurd (let z = sizing_kind s in omega arith)
  sizes_untyped (OfType u t) s q l r h =
      let none : words_of_type x.definitions u ≡ [] = s.enumerated.wordless l in
      record { told = sized_port x.definitions d (OfType u t) t 0 r (λ output. ap (λ i. sized t i >>= λ j. Done (port_for x.definitions output (OfType u t) j)) (ap word_width none)) h }

  -- a bus by its width
  pub sizing_workable : {mem table : List ℕ} (i : ℕ) → i ≡ k - 1 → Room refs sorts numbers mem table entries → (m : Declaration) → Sized m → (kind_of (word_at w (first_entry + k)) ≡ Kind.signal → ⊥)
      → (kind_of (word_at w (first_entry + k)) ≡ Kind.typed → ⊥) → Workable text w refs sorts numbers mem table entries i
  sizing_workable i q r (OneSignal n) s a b = absurd (a (sizing_kind s))
  sizing_workable {mem} {table} i q r (OfWidth n v) s a b =
      subst (λ (j : ℕ). Workable text w refs sorts numbers mem table entries j) (sym q) (record {
        R = tree-realm s.tree d s.short;
        c = define_all (context_of [] d) x.definitions;
        e = v;
        expression = tree-expression s.tree x.definitions (k - 1) v s.there.width d s.short sorts numbers s.notes;
        room = r;
        few = s.tree.stored.few;
        inside = tree-before s.tree k s.there.own.inside;
      })
  sizing_workable i q r (OfType u n) s a b = absurd (b (sizing_kind s))

  module _ (m : Declaration) (s : Sized m) (a : kind_of (word_at w (first_entry + k)) ≡ Kind.signal → ⊥) (b : kind_of (word_at w (first_entry + k)) ≡ Kind.typed → ⊥) (i : ℕ) (at : i ≡ k - 1) (v : Returned ℕ)
      {table table' : List ℕ} (f : Numbered text w refs sorts numbers table table' i v) where
    told : (n : Token) (y : Expr) → Sized (OfWidth n y) → says v ≡ (value (defining (declared d) x.definitions) y >>= number)
    told n y s =
        let c : Context = define_all (context_of [] d) x.definitions in
        let R = tree-realm s.tree d s.short in
        let g = f.tells R c y (subst (λ (j : ℕ). Expression text w refs sorts numbers j R c y) (sym at)
        (tree-expression s.tree x.definitions (k - 1) y s.there.width d s.short sorts numbers s.notes)) in
        g.says ∙ ap (λ sc. value sc y >>= number) (defined_values x.definitions (context_of [] d))

    pub sizes-refused : {r : Returned ℕ} (u : Refusal) → v ≡ Err u → r ≡ Err u → Sizes x.definitions d m r
    sizes-refused u q z = subst (Sizes x.definitions d m) (sym z) (go m s)
      where
        go : (m : Declaration) → Sized m → Sizes x.definitions d m (Err u)
        go (OneSignal t) s = absurd (a (sizing_kind s))
        go (OfType u t) s = absurd (b (sizing_kind s))
        go (OfWidth t y) s =
            let g : Result.Refused u.number u.place ≡ (value (defining (declared d) x.definitions) y >>= number) = ap says (sym q) ∙ told t y s in
            record {
              told = λ output. bind_refused (value (defining (declared d) x.definitions) y >>= number >>= sized t) u.number u.place (λ j. Done (port_for x.definitions output (OfWidth t y) j))
                  (bind_refused _ u.number u.place (sized t) (sym g));
            }

    pub sizes-bus : (n : ℕ) → v ≡ Ok n → (r : Returned ℕ) → IsSized n (declared_name m).at r → Sizes x.definitions d m r
    sizes-bus n q r h = go m s h
      where
        go : (m : Declaration) → Sized m → IsSized n (declared_name m).at r → Sizes x.definitions d m r
        go (OneSignal t) s h = absurd (a (sizing_kind s))
        go (OfType u t) s h = absurd (b (sizing_kind s))
        go (OfWidth t y) s h =
            let g : Done n ≡ (value (defining (declared d) x.definitions) y >>= number) = ap says (sym q) ∙ told t y s in
            record {
              told = sized_port x.definitions d (OfWidth t y) t n r
                  (λ output. ap (λ u. u >>= λ j. Done (port_for x.definitions output (OfWidth t y) j)) (bind_to (value (defining (declared d) x.definitions) y >>= number) n (sized t) (sym g))) h;
            }

pub sort_bus : (n : ℕ) → (n ≡ 0 → ⊥) → Sort.bus ≡ sort_of n
sort_bus zero h = absurd (h refl)
sort_bus (suc n) h = refl

pub sized_note : (ts : Tokens) (w : List ℕ) (n : ℕ) → n ≤ max_width → Note ts w (sort_of n) n (Stands (as_declared n))
sized_note ts w zero l = (refl, refl)
sized_note ts w (suc n) l = (refl, (refl, (omega arith, omega arith)))
