-- The names that a text's entries declare, in order (refusal 8, and refusal 7 among declared names).
use Rattle.std.specs.Prelude.{ℕ, ◌≤◌, List, [], ◌∷◌, Bool, true, false, not, ◌&&◌, ◌≡◌, refl, eqb, leb}
use Rattle.std.proofs.Common.{sym, ap, ◌∙◌, arith, leb-true, le-leb}
use Rattle.std.proofs.lemmas.Bool.{lt-leb}
use Rattle.language.specs.Tree.{Expr}
use Rattle.language.specs.Names.{Names}
use Rattle.language.proofs.Laws.Basics.Lists.{All, all_more}
use Rattle.entries.specs.Kinds as Kind
use Rattle.entries.specs.Flat.{Entry, flat}
use Rattle.entries.specs.FlatLaws.{flat-inside}
use Rattle.names.specs.Roles.{declares}
use Rattle.names.specs.Scan.{token_of}

-- the names of the entries that declare one, of the kinds from `low` on
unfoldable pub declared_in : ℕ → List Entry → Names
declared_in low [] = []
declared_in low (n ∷ es) = elim (declares low n.kind) [ true ↦ token_of n ∷ declared_in low es | false ↦ declared_in low es ]

-- what declares no name at all declares no signal
pub fewer : (low k : ℕ) → Kind.parameter ≤ low → declares Kind.parameter k ≡ false → declares low k ≡ false
fewer low k h e = go (leb low k) refl
  where
    go : (b : Bool) → leb low k ≡ b → (b && not (eqb k Kind.word) && leb k Kind.typed) ≡ false
    go false f = refl
    go true f = sym (ap (λ b. b && not (eqb k Kind.word) && leb k Kind.typed) (le-leb Kind.parameter k (omega (arith, leb-true low k f)))) ∙ e

-- an entry of an expression
abbrev pub Inner : Entry → Type 0
Inner n = declares Kind.parameter n.kind ≡ false

pub inner-flat : (e : Expr) → All Inner (flat e)
inner-flat e = all_more (λ n l. ap (λ b. b && not (eqb n.kind Kind.word) && leb n.kind Kind.typed) (lt-leb Kind.parameter n.kind l)) (flat e) (flat-inside e)
