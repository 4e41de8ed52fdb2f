-- The numbers of declared names, entry by entry.
use Rattle.std.specs.Prelude.{ℕ, suc, ◌+◌, ◌-◌, ◌≤◌, ◌<◌, List, [], ◌∷◌, true, false, ◌≡◌, refl, length, get_or, drop, set}
use Rattle.std.proofs.Math.Option.{some}
use Rattle.std.proofs.Common.{sym, ap, ◌∙◌, subst, arith, add-one, get_or-set_same, get_or-set_other}
use Rattle.words.specs.Words.{word_at}
use Rattle.language.specs.Bytes.{same}
use Rattle.language.specs.Limits.{max_names}
use Rattle.language.specs.Tokens.{Token, tokens}
use Rattle.language.specs.Names.{Names, place_of_first}
use Rattle.language.proofs.Laws.Basics.Tests.{pick, leave}
use Rattle.entries.specs.Kinds as Kind
use Rattle.entries.specs.Flat.{Entry}
use Rattle.entries.specs.Stored.{first_entry, kind_of}
use Rattle.names.specs.Roles.{declares}
use Rattle.names.specs.Scan.{token_of}
use Rattle.names.specs.Declaring.{declared_in}
use Rattle.spellings.specs.Interned.{token_at}
use Rattle.names.specs.Tables.{no_place}
use Rattle.names.specs.Walkable.{names, Walkable, Table, entry_of}
use Rattle.names.proofs.WalkableLaws.{rest_at, kind_there}
use Rattle.names.specs.OwnName.{OwnName}
use Rattle.names.proofs.OwnNameLaws.{own_at, own-set}
use Rattle.names.specs.Meeting.{declared_from}
use Rattle.names.proofs.MeetingLaws.{declared-here, declared_there, declares-all}
use Rattle.names.specs.References.{number_in, DeclaresAt, Where, pushed}
use Rattle.names.specs.Numbering.{Numbered}

pub number_same : (n : Token) (ns : Names) (t : Token) → same n.text t.text ≡ true → number_in (n ∷ ns) t ≡ length ns
unfolding number_in
number_same n ns t e = pick (same n.text t.text) _ _ e

pub number_other : (n : Token) (ns : Names) (t : Token) → same n.text t.text ≡ false → number_in (n ∷ ns) t ≡ number_in ns t
unfolding number_in
number_other n ns t e = leave (same n.text t.text) _ _ e

number_none : (t : Token) → number_in [] t ≡ no_place
unfolding number_in
number_none t = refl

-- a store at a number that is not in use
where-set : (es : List Entry) (declared : List ℕ) (i v : ℕ) (ns : Names) → length ns ≤ i → Where es declared ns → Where es (set declared i v) ns
where-set es declared i v [] l h = tt
where-set es declared i v (n ∷ ns) l h =
    (λ m. subst (λ d. DeclaresAt es d n) (sym (get_or-set_other declared i (length ns) v 0 (λ e. omega arith))) (h.0 m), where-set es declared i v ns (omega arith) h.1)

module _ {w ids : List ℕ} {entries : ℕ} (h : Walkable w ids entries) where
  pub numbered_none : {table declared : List ℕ} (place : ℕ) → Table h table (λ t. no_place) → Numbered h 0 table declared 0 place
  numbered_none place s =
      record {
        passed = [];
        all = refl;
        counted = refl;
        few = omega arith;
        shown = record { room = s.room; holds = λ j l y. s.holds j l y ∙ sym (number_none (token_at (tokens h.text) j)) };
        found = tt;
        before = λ l. refl;
        behind = λ l. absurd (omega arith);
      }

  module _ (k : ℕ) (l : k < entries) {kind : ℕ} (said : kind ≡ kind_of (word_at w (first_entry + k))) where
    abbrev own : Entry
    own = entry_of h.es k

    kinds : kind ≡ own.kind
    kinds = said ∙ kind_there h k l

    inside : k < length h.es
    inside = let t = h.total in omega arith

    rest : drop k h.es ≡ own ∷ drop (k + 1) h.es
    rest = rest_at h.es k inside ∙ ap (λ d. own ∷ drop d h.es) (sym (add-one k))

    pub numbered_other : {table declared : List ℕ} {count place : ℕ} → Numbered h k table declared count place → declares Kind.parameter kind ≡ false → Numbered h (k + 1) table declared count place
    numbered_other {count = count} n e =
        let same : declared_from h Kind.parameter k ≡ declared_from h Kind.parameter (k + 1) = ap (declared_in Kind.parameter) rest ∙ declared_there Kind.parameter own (drop (k + 1) h.es)
        (ap (declares Kind.parameter) (sym kinds) ∙ e) in
        record {
          passed = n.passed;
          all = ap (λ ns. pushed ns n.passed) (sym same) ∙ n.all;
          counted = n.counted;
          few = (let f = n.few in omega arith);
          shown = n.shown;
          found = n.found;
          before = λ m. n.before m ∙ ap (drop (max_names - count)) same;
          behind = n.behind;
        }

    module _ (e : declares Kind.parameter kind ≡ true) where
      declaring : declares Kind.parameter own.kind ≡ true
      declaring = ap (declares Kind.parameter) (sym kinds) ∙ e

      named : names own.kind ≡ true
      named = declares-all Kind.parameter own.kind (omega arith) declaring

      more : declared_from h Kind.parameter k ≡ token_of own ∷ declared_from h Kind.parameter (k + 1)
      more = ap (declared_in Kind.parameter) rest ∙ declared-here Kind.parameter own (drop (k + 1) h.es) declaring

      module _ {table declared : List ℕ} {count place at id : ℕ} (n : Numbered h k table declared count place) (o : OwnName w ids k at id) where
        -- the table with the name's number
        shown-more : Table h (set table id count) (number_in (token_of own ∷ n.passed))
        shown-more =
            own-set h k l named o count n.shown (λ t q. number_same (token_of own) n.passed t q ∙ sym n.counted) (λ t q. number_other (token_of own) n.passed t q)

        numbered_more : {declared' : List ℕ} {place' : ℕ} → Where h.es declared' (token_of own ∷ n.passed)
            → (max_names < count + 1 → place_of_first (drop max_names (declared_from h Kind.parameter 0)) ≡ some place') → Numbered h (k + 1) (set table id count) declared' (count + 1) place'
        numbered_more f b =
            record {
              passed = token_of own ∷ n.passed;
              all = ap (λ ns. pushed ns n.passed) (sym more) ∙ n.all;
              counted = (let c = n.counted in omega arith);
              few = (let m = n.few in omega arith);
              shown = shown-more;
              found = f;
              before = λ m. before' m (n.before (omega arith));
              behind = b;
            }
          where
            before' : count + 1 ≤ max_names → drop max_names (declared_from h Kind.parameter 0) ≡ drop (max_names - count) (declared_from h Kind.parameter k)
                → drop max_names (declared_from h Kind.parameter 0) ≡ drop (max_names - (count + 1)) (declared_from h Kind.parameter (k + 1))
            before' m p =
                let one : max_names - count ≡ suc (max_names - (count + 1)) = omega arith in
                p ∙ ap (λ d. drop d (declared_from h Kind.parameter k)) one ∙ ap (drop (suc (max_names - (count + 1)))) more

        -- a name with a number, whose entry is noted; the first without; one behind it
        pub numbered-name : count < max_names → max_names ≤ length declared → Numbered h (k + 1) (set table id count) (set declared count k) (count + 1) place
        numbered-name less room =
            let c = n.counted in
            let here : get_or (set declared count k) (length n.passed) 0 ≡ k = ap (λ d. get_or (set declared count k) d 0) (sym c) ∙ get_or-set_same declared count k 0 (omega arith) in
            numbered_more (
              λ m. subst (λ d. DeclaresAt h.es d (token_of own)) (sym here) (record { inside = inside; declaring = declaring; name = refl }),
              where-set h.es declared count k n.passed
                  (omega arith) n.found,
            )
            (λ m. absurd (omega arith))

        pub numbered-first : count ≡ max_names → Numbered h (k + 1) (set table id count) declared (count + 1) at
        numbered-first full =
            let c = n.counted in
            let none_left : max_names - count ≡ 0 = omega arith in
            numbered_more (λ m. absurd (omega arith), n.found)
            (λ m. ap place_of_first (n.before (omega arith) ∙ ap (λ d. drop d (declared_from h Kind.parameter k)) none_left ∙ more) ∙ ap some (sym (own_at h k l named o)))

        pub numbered-behind : max_names < count → Numbered h (k + 1) (set table id count) declared (count + 1) place
        numbered-behind full = let c = n.counted in numbered_more (λ m. absurd (omega arith), n.found) (λ m. n.behind full)

pub numbered-at : {w ids table declared : List ℕ} {entries k d count place : ℕ} {h : Walkable w ids entries} → Numbered h k table declared count place → k ≡ d → Numbered h d table declared count place
numbered-at n e = rw (sym e) n
