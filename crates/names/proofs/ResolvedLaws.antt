-- How resolved names are used: an expression among the tree's entries has what its names refer to, and a declared name's number leads to the entry that declares it.
use Rattle.std.specs.Prelude.{ℕ, suc, ◌≤◌, ◌<◌, List, [], ◌∷◌, Bool, true, false, ◌||◌, ◌≡◌, refl, length, get_or}
use Rattle.std.proofs.lemmas.Bool.{false≢true}
use Rattle.std.proofs.Common.{sym, ◌∙◌, subst, arith}
use Rattle.language.specs.Bytes.{same}
use Rattle.language.specs.Limits.{max_names}
use Rattle.language.specs.Tokens.{Token}
use Rattle.language.specs.Tree.{Expr, Spec}
use Rattle.language.specs.Names.{Names, visible}
use Rattle.language.proofs.Laws.Basics.Tests.{same_equal}
use Rattle.entries.specs.Flat.{Entry, flat, outline}
use Rattle.names.specs.Roles.{binds, ends}
use Rattle.names.specs.Scan.{token_of}
use Rattle.names.specs.Walkable.{names}
use Rattle.names.specs.Walking.{open_before}
use Rattle.names.proofs.NumberingLaws.{number_same, number_other}
use Rattle.names.specs.References.{number_in, reference, DeclaresAt, Where}
use Rattle.names.specs.Refers.{Run}
use Rattle.names.proofs.RefersLaws.{Gone, expr_goes, entry_goes}
use Rattle.names.specs.Resolved.{declared_names, Resolved}

-- a tree's entries from the first one on
pub run-begins : (x : Spec) → Run (outline x) 0 [] [] (outline x)
unfolding open_before
run-begins x = record { here = refl; opened = refl }

-- from there on, line by line: an expression, and an entry that is none of a big operator's
module _ {x : Spec} {refs found : List ℕ} {n : ℕ} (r : Resolved x refs found n) where
  pub resolved_expr : (e : Expr) (start : ℕ) (bs : Names) (post : List Entry) → Run (outline x) start bs (flat e) post → Gone (outline x) refs (declared_names x) r.refers start bs e post
  resolved_expr = expr_goes (outline x) refs (declared_names x) r.refers

  pub resolved_entry : (m : Entry) → binds m.kind ≡ false → ends m.kind ≡ false → (start : ℕ) (bs : Names) (post : List Entry) → Run (outline x) start bs [] (m ∷ post)
      → Run (outline x) (suc start) bs [] post × (names m.kind ≡ true → get_or refs start 0 ≡ reference (declared_names x) bs (token_of m))
  resolved_entry = entry_goes (outline x) refs (declared_names x) r.refers

-- the entry that declares the name of a spelling
pub record Found (es : List Entry) (k : ℕ) (t : Token) : Type 0 where
  pub name : Token
  pub alike : same name.text t.text ≡ true
  pub declares : DeclaresAt es k name

pub number-found : (es : List Entry) (found : List ℕ) (ns : Names) (t : Token) → Where es found ns → length ns ≤ max_names → visible ns t ≡ true → Found es (get_or found (number_in ns t) 0) t
number-found es found [] t w l v = absurd (false≢true v)
number-found es found (n ∷ ns) t w l v = go (same n.text t.text) refl v (number-found es found ns t w.1 (omega arith))
  where
    go : (b : Bool) → same n.text t.text ≡ b → (b || visible ns t) ≡ true → (visible ns t ≡ true → Found es (get_or found (number_in ns t) 0) t) → Found es (get_or found (number_in (n ∷ ns) t) 0) t
    go true e f ih = subst (λ d. Found es (get_or found d 0) t) (sym (number_same n ns t e)) (record { name = n; alike = e; declares = w.0 (omega arith) })
    go false e f ih = subst (λ d. Found es (get_or found d 0) t) (sym (number_other n ns t e)) (ih f)

-- a name that is among them has a number below their count
pub number-below : (ns : Names) (t : Token) → visible ns t ≡ true → number_in ns t < length ns
number-below [] t v = absurd (false≢true v)
number-below (n ∷ ns) t v = go (same n.text t.text) refl v (number-below ns t)
  where
    go : (b : Bool) → same n.text t.text ≡ b → (b || visible ns t) ≡ true → (visible ns t ≡ true → number_in ns t < length ns) → number_in (n ∷ ns) t < length (n ∷ ns)
    go true e f ih = let z = number_same n ns t e in omega arith
    go false e f ih = let z = number_other n ns t e in let l = ih f in omega arith

-- equal numbers are those of names of one spelling
pub number_apart : (ns : Names) (a b : Token) → visible ns a ≡ true → visible ns b ≡ true → number_in ns a ≡ number_in ns b → a.text ≡ b.text
number_apart [] a b v w e = absurd (false≢true v)
number_apart (n ∷ ns) a b v w e = go (same n.text a.text) (same n.text b.text) refl refl v w (number_apart ns a b)
  where
    go : (p q : Bool) → same n.text a.text ≡ p → same n.text b.text ≡ q → (p || visible ns a) ≡ true → (q || visible ns b) ≡ true
        → (visible ns a ≡ true → visible ns b ≡ true → number_in ns a ≡ number_in ns b → a.text ≡ b.text) → a.text ≡ b.text
    go true true x y f g ih = sym (same_equal n.text a.text x) ∙ same_equal n.text b.text y
    go true false x y f g ih = absurd (let s = number_same n ns a x in let o = number_other n ns b y in let l = number-below ns b g in omega arith)
    go false true x y f g ih = absurd (let o = number_other n ns a x in let s = number_same n ns b y in let l = number-below ns a f in omega arith)
    go false false x y f g ih = ih f g (sym (number_other n ns a x) ∙ e ∙ number_other n ns b y)
