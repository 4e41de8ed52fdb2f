-- The name of an entry: what a table holds for it, and how a table changes where its number stands.
use Rattle.std.specs.Prelude.{ℕ, ◌+◌, ◌<◌, ◌^◌, min, List, ◌∷◌, true, false, ◌≡◌, get_or, set}
use Rattle.std.proofs.Common.{sym, ap, ◌∙◌, subst, arith}
use Rattle.words.specs.Words.{word_at}
use Rattle.language.specs.Bytes.{same}
use Rattle.language.specs.Tokens.{Token, tokens}
use Rattle.language.specs.Names.{Names}
use Rattle.language.proofs.Laws.Basics.Tests.{same_equal}
use Rattle.lexer.specs.Stored.{offset_in}
use Rattle.entries.specs.Stored.{first_entry, index_of}
use Rattle.names.specs.Scan.{token_of}
use Rattle.spellings.specs.TopLaws.{inside-top}
use Rattle.names.specs.Tables.{table_bits, least, Placed}
use Rattle.names.proofs.TableLaws.{least-same, least_other, least-text, shows_set}
use Rattle.names.specs.Walkable.{names, Walkable, Table, entry_of, NameAt}
use Rattle.names.proofs.WalkableLaws.{name_there, place_there}
use Rattle.names.specs.OwnName.{OwnName}

pub own_name : {w ids : List ℕ} {k j at id : ℕ} → j ≡ index_of (word_at w (first_entry + k)) → at ≡ offset_in (word_at w j) → id ≡ get_or ids j 0 → id < 2 ^ table_bits → OwnName w ids k at id
own_name {w} {ids} {j = j} e a i s = record { place = a ∙ ap (λ d. offset_in (word_at w d)) e; number = i ∙ ap (λ d. get_or ids d 0) e; inside = inside-top ids j (omega arith) i; small = s }

module _
    {w ids : List ℕ} {entries : ℕ} (h : Walkable w ids entries) (k : ℕ)
    (l : k < entries)
    (y : names (entry_of h.es k).kind ≡ true)
    {at id : ℕ}
    (n : OwnName w ids k at id)
  where
    abbrev own : Token
    own = token_of (entry_of h.es k)

    abbrev index : ℕ
    index = index_of (word_at w (first_entry + k))

    pub own-token : NameAt (tokens h.text) h.count index own
    own-token = name_there h k l y

    pub own_at : at ≡ own.at
    own_at = n.place ∙ (place_there h k l own-token).0

    pub own-placed : Placed own
    own-placed = (place_there h k l own-token).1

    pub own_held : {table : List ℕ} {m : Token → ℕ} {v : ℕ} → Table h table m → v ≡ get_or table id 0 → v ≡ m own
    own_held {table} {m} s e = e ∙ ap (λ i. get_or table i 0) n.number ∙ s.holds index own-token.inside own-token.name ∙ ap m (sym own-token.token)

    -- a store at its number: what the names of its spelling have, and the others keep
    pub own-set : {table : List ℕ} {m m' : Token → ℕ} (v : ℕ) → Table h table m → ((t : Token) → same own.text t.text ≡ true → m' t ≡ v)
        → ((t : Token) → same own.text t.text ≡ false → m' t ≡ m t) → Table h (set table id v) m'
    own-set {table} {m} {m'} v s f g =
        subst (λ i. Table h (set table i v) m') (sym n.number)
        (shows_set h.interned index own-token.inside own-token.name v s (λ t e. f t (ap (λ u. same u.text t.text) own-token.token ∙ e))
        (λ t e. g t (ap (λ u. same u.text t.text) own-token.token ∙ e)))

    -- one name more
    pub own-push : {table : List ℕ} (ns : Names) {v v' : ℕ} → Table h table (least ns) → v ≡ get_or table id 0 → v' ≡ min v at → Table h (set table id v') (least (own ∷ ns))
    own-push ns {v} {v'} s e f =
        let a = own_at in
        let b = own_held s e in
        own-set v' s (λ t q. let c = least-same own ns t q in let d = least-text ns own t (same_equal own.text t.text q) in omega arith) (λ t q. least_other own ns t q)
