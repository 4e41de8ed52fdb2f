-- Where two declared names meet, entry by entry.
use Rattle.std.specs.Prelude.{ℕ, ◌+◌, ◌≤◌, ◌<◌, min, max, List, [], ◌∷◌, Bool, true, false, ◌||◌, ◌≡◌, refl, get_or, drop, set}
use Rattle.std.proofs.lemmas.Bool.{false≢true}
use Rattle.std.proofs.Math.Option.{none}
use Rattle.std.proofs.Common.{sym, ap, ap₂, ◌∙◌, subst, arith, add-one, drop_of_length-le}
use Rattle.words.specs.Words.{word_at}
use Rattle.language.specs.Tokens.{tokens}
use Rattle.language.specs.Places.{first}
use Rattle.language.specs.Names.{doubled}
use Rattle.language.proofs.Laws.Basics.Lists.{All}
use Rattle.language.proofs.Laws.Basics.Tests.{pick, leave, or_right}
use Rattle.entries.specs.Kinds as Kind
use Rattle.entries.specs.Flat.{Entry}
use Rattle.entries.specs.Stored.{first_entry, kind_of}
use Rattle.names.specs.Roles.{uses, binds, declares}
use Rattle.names.specs.Scan.{token_of}
use Rattle.names.specs.Declaring.{declared_in, fewer}
use Rattle.spellings.specs.Interned.{token_at}
use Rattle.names.specs.Tables.{no_place, place_of, least, Placed}
use Rattle.names.proofs.TableLaws.{place_none, place-min, again-least, least_none}
use Rattle.names.specs.Walkable.{names, Walkable, Table, entry_of}
use Rattle.names.proofs.WalkableLaws.{rest_at, kind_there}
use Rattle.names.specs.OwnName.{OwnName}
use Rattle.names.proofs.OwnNameLaws.{own_at, own-placed, own_held, own-push}
use Rattle.names.specs.Meeting.{declared_from, Met}

pub declared_none : (low : ℕ) → declared_in low [] ≡ []
unfolding declared_in
declared_none low = refl

pub declared-here : (low : ℕ) (n : Entry) (es : List Entry) → declares low n.kind ≡ true → declared_in low (n ∷ es) ≡ token_of n ∷ declared_in low es
unfolding declared_in
declared-here low n es e = pick (declares low n.kind) _ _ e

pub declared_there : (low : ℕ) (n : Entry) (es : List Entry) → declares low n.kind ≡ false → declared_in low (n ∷ es) ≡ declared_in low es
unfolding declared_in
declared_there low n es e = leave (declares low n.kind) _ _ e

-- a name that is declared is a name
pub declares-all : (low k : ℕ) → Kind.parameter ≤ low → declares low k ≡ true → names k ≡ true
declares-all low k l e = or_right (uses k || binds k) (declares Kind.parameter k) (go (declares Kind.parameter k) refl)
  where
    go : (b : Bool) → declares Kind.parameter k ≡ b → declares Kind.parameter k ≡ true
    go true f = f
    go false f = absurd (false≢true (sym (fewer low k l f) ∙ e))

module _ {w ids : List ℕ} {entries : ℕ} (h : Walkable w ids entries) (low : ℕ) (enough : Kind.parameter ≤ low) where
  -- behind the last entry
  pub met_none : {table : List ℕ} (k : ℕ) → k ≡ entries → Table h table (λ t. no_place) → Met h low k table no_place
  met_none {table} k e s =
      let none : declared_from h low k ≡ [] = ap (declared_in low) (drop_of_length-le h.es {i = k} (let t = h.total in omega arith)) ∙ declared_none low in
      record {
        shown = subst (λ ns. Table h table (least ns)) (sym none) (record { room = s.room; holds = λ j l y. s.holds j l y ∙ sym (least_none (token_at (tokens h.text) j)) });
        placed = subst (All Placed) (sym none) tt;
        doubles = place_none no_place (omega arith) ∙ ap doubled (sym none);
      }

  module _ (k : ℕ) (l : k < entries) {kind : ℕ} (said : kind ≡ kind_of (word_at w (first_entry + k))) where
    abbrev own : Entry
    own = entry_of h.es k

    kinds : kind ≡ own.kind
    kinds = said ∙ kind_there h k l

    rest : drop k h.es ≡ own ∷ drop (k + 1) h.es
    rest = rest_at h.es k (let t = h.total in omega arith) ∙ ap (λ d. own ∷ drop d h.es) (sym (add-one k))

    -- an entry that declares none of them
    pub met-other : {table : List ℕ} {place : ℕ} → Met h low (k + 1) table place → declares low kind ≡ false → Met h low k table place
    met-other {table} m e =
        let same : declared_from h low (k + 1) ≡ declared_from h low k = sym (ap (declared_in low) rest ∙ declared_there low own (drop (k + 1) h.es) (ap (declares low) (sym kinds) ∙ e)) in
        record { shown = subst (λ ns. Table h table (least ns)) same m.shown; placed = subst (All Placed) same m.placed; doubles = m.doubles ∙ ap doubled same }

    -- an entry that declares one
    pub met-more : {table : List ℕ} {place at id seen v p : ℕ} → Met h low (k + 1) table place → declares low kind ≡ true → OwnName w ids k at id → seen ≡ get_or table id 0 → v ≡ min seen at
        → p ≡ min place (max seen at) → Met h low k (set table id v) p
    met-more {table} {place} {at} {id} {seen} {v} {p} m e n es ev ep =
        let declaring : declares low own.kind ≡ true = ap (declares low) (sym kinds) ∙ e in
        let y = declares-all low own.kind enough declaring in
        let t = token_of own in
        let old = declared_from h low (k + 1) in
        let same : t ∷ old ≡ declared_from h low k = sym (ap (declared_in low) rest ∙ declared-here low own (drop (k + 1) h.es) declaring) in
        let here = own_at h k l y n in
        let held = own_held h k l y n m.shown es in
        let placed = own-placed h k l y n in
        record {
          shown = subst (λ ns. Table h (set table id v) (least ns)) same (own-push h k l y n old m.shown es ev);
          placed = subst (All Placed) same (placed, m.placed);
          doubles =
              ap place_of (ep ∙ omega arith) ∙ sym (place-min (max (least old t) t.at) place)
              ∙ ap₂ first (sym (again-least old t m.placed placed)) m.doubles ∙ ap doubled same;
        }

pub met_at : {w ids table : List ℕ} {entries low k d place : ℕ} {h : Walkable w ids entries} → Met h low k table place → k ≡ d → Met h low d table place
met_at m e = rw (sym e) m
