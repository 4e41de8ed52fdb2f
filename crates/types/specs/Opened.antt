-- The names of big operators that are open behind each part of a tree.
use Rattle.std.specs.Prelude.{ℕ, [], ◌∷◌, false, ◌≡◌, refl}
use Rattle.std.proofs.Common.{ap, ◌∙◌}
use Rattle.language.specs.Tokens.{Token}
use Rattle.language.specs.Tree.{Expr, Named, Numeral, Truth, Index, Paren, Prefixed, Joined, Nexts, InWindow, Each, Between, Listed, Empty, Element, Range}
use Rattle.language.specs.Names.{Names}
use Rattle.entries.specs.Flat.{Entry}
use Rattle.names.specs.Roles.{binds, ends}
use Rattle.names.specs.QuietLaws.{quiet_truth, quiet_before, quiet_joining, quiet_window, quiet_between, ending-big}
use Rattle.names.specs.Walking.{open_after}
use Rattle.names.proofs.RefersLaws.{open_kept, open_more, open_less, binding}
use Rattle.traversal.specs.Parts.{Part, Whole, Binder, unless_empty, operands_of}
use Rattle.traversal.specs.PartLaws.{unless-cases}
use Rattle.traversal.specs.PassLaws.{own_entry, past}

-- an entry that neither brings nor ends a big operator's name
abbrev pub Shut : ℕ → Type 0
Shut k = (binds k ≡ false) × (ends k ≡ false)

pub shut_stays : {k : ℕ} → Shut k → (e : Entry) → e.kind ≡ k → open_after [] e ≡ []
shut_stays h e q = open_kept [] e (ap binds q ∙ h.0) (ap ends q ∙ h.1)

-- a big operator's name is open in the rest of its operator
abbrev pub open_past : {N : Type 0} → Names → Part N → Names
open_past bs (Whole y e) = bs
open_past bs (Binder y further i s) = i ∷ bs

module _ {N : Type 0} (bind : Token → N → N) where
  abbrev Carries : Names → Part N → Type 0
  Carries bs q = open_after (past open_past bs (operands_of bind q)) (own_entry bind q) ≡ open_past bs q

  past-rest : (bs : Names) (y : N) (e : Expr) → past open_past bs (unless_empty e (Whole y e)) ≡ bs
  past-rest bs y e = unless-cases (Whole y) (λ _ qs. past open_past bs qs ≡ bs) refl (λ _. refl) e

  pub carries : (bs : Names) (q : Part N) → Carries bs q
  carries bs (Whole y (Named t)) = open_kept bs _ refl refl
  carries bs (Whole y (Numeral t)) = open_kept bs _ refl refl
  carries bs (Whole y (Truth t b)) = open_kept bs _ quiet_truth.no_binder quiet_truth.no_end
  carries bs (Whole y (Index t e)) = open_kept bs _ refl refl
  carries bs (Whole y (Paren t e)) = open_kept bs _ refl refl
  carries bs (Whole y (Prefixed t o e)) = open_kept bs _ (quiet_before o).no_binder (quiet_before o).no_end
  carries bs (Whole y (Joined t o a b)) = open_kept bs _ (quiet_joining o).no_binder (quiet_joining o).no_end
  carries bs (Whole y (Nexts t n e)) = open_kept bs _ refl refl
  carries bs (Whole y (InWindow t o n m e)) = open_kept bs _ quiet_window.no_binder quiet_window.no_end
  carries bs (Whole y (Each t o further i s e)) = open_less i bs _ (ending-big o).no_binder (ending-big o).is-end
  carries bs (Whole y (Between t l u a b)) = open_kept bs _ (quiet_between u).no_binder (quiet_between u).no_end
  carries bs (Whole y (Listed t es)) = ap (λ us. open_after us (own_entry bind (Whole y (Listed t es)))) (past-rest bs y es) ∙ open_kept bs _ refl refl
  carries bs (Whole y Empty) = open_kept bs _ refl refl
  carries bs (Whole y (Element e es)) = ap (λ us. open_after us (own_entry bind (Whole y (Element e es)))) (past-rest bs y es) ∙ open_kept bs _ refl refl
  carries bs (Whole y (Range t a b c)) = open_kept bs _ refl refl
  carries bs (Binder y further i s) = open_more bs _ (binding further).0
